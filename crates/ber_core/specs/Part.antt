-- An element and a reader as the definitions see them.
use Rattle.std.specs.Prelude.{ℕ, List}
use Rattle.ber_core.specs.declared.element.Tag.{Tag}
use Rattle.ber_core.specs.declared.element.Element.{Element}
use Rattle.ber_core.specs.declared.element.Lengths.{Lengths}

-- a tag and contents, without where they lie in memory
pub record Part : Type 0 where
  pub tag : Tag
  pub contents : List ℕ

abbrev pub part : Element → Part
part e = record { tag = e.tag; contents = e.contents.now }

-- what a reader has before it: which lengths it reads, and the octets that are left
pub record Remaining : Type 0 where
  pub lengths : Lengths
  pub octets : List ℕ
