-- `schema::names::number_in` meets its contract.
use Rattle.schema.proofs.Tables.{met, unmet, key_low}
use Rattle.schema.proofs.names.number_in.Goals as goal

pub key_of-requires : goal.key_of-requires
key_of-requires g c = c.last_weight.ensures.1

pub named_by-k-requires : goal.named_by-k-requires
named_by-k-requires g c = c.key_of.ensures.1

pub is_named-requires : goal.is_named-requires
is_named-requires g c = key_low _ _ _ g.C.Catalogue.laws _ _ c.key_of.ensures.1 c.named_by-k.ensures

pub returns-then-is_named : goal.returns-then-is_named
returns-then-is_named g c =
    met _ _ _ g.C.Catalogue.laws _ _ _ c.is_named.ensures
    (key_low _ _ _ g.C.Catalogue.laws _ _ c.key_of.ensures.1 c.named_by-k.ensures) c.if-is_named.true

pub returns-else-is_named : goal.returns-else-is_named
returns-else-is_named g c =
    unmet _ _ _ g.C.Catalogue.laws _ _ _ c.is_named.ensures
    (rw (c.key_of.ensures.0, c.last_weight.ensures.0) at c.named_by-k.ensures) c.if-is_named.false
