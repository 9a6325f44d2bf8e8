-- Demand 2: with room, a file is accepted exactly if it meets the rules; its plan holds exactly what they give; numbers are read to their
-- last byte.
use Prim.Native.Nat.{ℕ, ◌≤◌, ◌<◌}
use native.Mathlib.Omega.{arith}
use mathlib.Core.Path.{◌≡◌, refl, sym, ap, ◌∙◌, subst}
use mathlib.Core.List.{List, [], ◌∷◌, ◌++◌}
use mathlib.Core.Bool.{true}
use lib.ListN.{length, take, drop}
use lib.Seq.{take-append_seam}
use Rattle.lists.specs.Lists.{Every}
use Rattle.text.specs.Texts.{bytes, same}
use Rattle.values.specs.Numbers.{IsNumber}
use Rattle.schema.specs.Schema.{rules_of}
use Rattle.file_rules.specs.Element.{Known, ReadsWhole, text_of, channel_of, good_of}
use Rattle.file_rules.specs.Document.{known_elements}
use Rattle.element.proofs.Laws.{Clean}
use Rattle.element.proofs.Whole.{whole_values, whole_channel}
use Rattle.document.proofs.Stood.{All}
use Rattle.std.specs.Prelude.{Ok, Err}
use Rattle.file_rules.specs.RefusalCode.{refused_at}
use Rattle.converter.specs.Converter.{Meets, Refuses, Converts, convert_answer, Converted}
use Rattle.converter.proofs.Once.{one_converted}
use Rattle.read_back.proofs.Takes.{no_faults, cleans}

module _ (s d : List ℕ) (r : Converted) (out ws : List ℕ) (h : Converts s d r out) where
  pub accepted_so : Meets s ws → length ws ≤ length d → (r ≡ Ok (length ws)) × (out ≡ ws ++ drop (length ws) d)
  accepted_so m l = one_converted s d r (Ok (length ws)) out (ws ++ drop (length ws) d) h (Converts.converts ws m l)

  pub short_so : Meets s ws → length d < length ws → r ≡ Err (refused_at 13 (length ws))
  short_so m l =
      let g = Refuses.by_room ws m l refl refl in
      (one_converted s d r (Err (refused_at 13 (length ws))) out d h (Converts.refuses (refused_at 13 (length ws)) g)).0

-- two lists of one length with the same words behind them are one list
same_front : (vs ws a b : List ℕ) → length vs ≡ length ws → vs ++ a ≡ ws ++ b → vs ≡ ws
same_front vs ws a b e q =
    sym (take-append_seam vs a) ∙ (λ i. take (e i) (q i)) ∙ take-append_seam ws b

pub meets_so : (s d : List ℕ) (r : Converted) (out ws : List ℕ) → Converts s d r out → r ≡ Ok (length ws)
    → out ≡ ws ++ drop (length ws) d → Meets s ws
meets_so s d r out ws (Converts.refuses u a) e q = absurd (refused_not u.number u.place (length ws) e)
  where
    refused_not : (n p m : ℕ) → Err (refused_at n p) ≡ Ok m → ⊥
    refused_not n p m g = let z : ◌≡◌ {A = ℕ} 0 1 = cc in omega arith
meets_so s d r out ws (Converts.converts vs m l) e q =
    subst (Meets s) (same_front vs ws (drop (length vs) d) (drop (length ws) d) (ap (λ (x : Converted). (convert_answer x).1) e) q) m

pub meets_then : (s d : List ℕ) (n : ℕ) (out : List ℕ) → Converts s d (Ok n) out → (ws : List ℕ) × Meets s ws × (n ≡ length ws)
meets_then s d n out (Converts.converts ws m l) = (ws, m, refl)

-- ---- every number of a file that meets the rules
abbrev pub AllWhole : Known → Type 0
AllWhole k =
    Every (ReadsWhole k) (rules_of k.name) × (same k.name (bytes "CHANNEL") ≡ true → IsNumber (text_of k) (good_of (channel_of k)))

read_all : (ks : List Known) → All Clean ks → Every AllWhole ks
unfolding Every
read_all [] c = tt
read_all (k ∷ ks) c = ((whole_values k c.0, whole_channel k c.0), read_all ks c.1)

pub whole_so : (s ws : List ℕ) (m : Meets s ws) → Every AllWhole (known_elements m.document)
whole_so s ws m =
    let f = no_faults m.document m.statements m.faultless in
    read_all (known_elements m.document) (cleans m.document f.0 f.1)
