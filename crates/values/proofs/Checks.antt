-- Paper 01, "Checks by hand": numbers.
use mathlib.Core.Path.{◌≡◌, refl}
use mathlib.Core.Bool.{true, false}
use Rattle.text.specs.Texts.{bytes, same}
use Rattle.text.specs.Kinds.{is_start, is_digit, is_name}
use Rattle.values.specs.Values.{trigger_name, worth_of}
use Rattle.values.specs.Numbers.{digit}
use Rattle.values.specs.NumbersCode.{digits_from, digits, number_spelt}
use Rattle.std.specs.Prelude.{Some, None, Ok, Err}
use Rattle.values.specs.declared.Unfit.TheVariants.{BadValue}
use Rattle.values.specs.declared.Sort.TheVariants.{Timeout}
use Rattle.lists.specs.Lists.{all}

pub record Numbers : Type 0 where
  pub hex : number_spelt (bytes "0x6e") ≡ Some 110
  pub zeros : number_spelt (bytes "0007") ≡ Some 7
  pub comma : number_spelt (bytes "1,500") ≡ None
  pub bare : number_spelt (bytes "0x") ≡ None

pub numbers : Numbers
unfolding bytes same digit digits_from digits number_spelt
numbers = record { hex = refl; zeros = refl; comma = refl; bare = refl }

-- and readings beside them
record Others : Type 0 where
  capital_x : number_spelt (bytes "0X6E") ≡ None
  eleven : number_spelt (bytes "12345678901") ≡ None
  nine_hex : number_spelt (bytes "0x123456789") ≡ None
  plus : number_spelt (bytes "+1") ≡ None
  blank : number_spelt (bytes " 1") ≡ None
  forever : worth_of Timeout (bytes "-1") ≡ Ok 4294967295
  large : worth_of Timeout (bytes "4294967295") ≡ Err BadValue
  operator : trigger_name (bytes "NOT") ≡ false
  name : trigger_name (bytes "NOT_1") ≡ true

others : Others
unfolding bytes same digit digits_from digits number_spelt worth_of trigger_name all is_name is_start is_digit
others =
    record {
      capital_x = refl;
      eleven = refl;
      nine_hex = refl;
      plus = refl;
      blank = refl;
      forever = refl;
      large = refl;
      operator = refl;
      name = refl;
    }
