-- What a reader of TOML tells of a text, as the rules say it.
use Rattle.std.proofs.Common.{◌≡◌, refl, ap, ℕ, List, None, Some, Bool, true, false}
use Rattle.std.specs.Str.{IsUtf8, is_utf8}
use Rattle.std.proofs.lemmas.Str.{IsUtf8-from_is_utf8, is_utf8-from_IsUtf8}
use Rattle.toml.specs.Data.{Members}
use Rattle.toml.specs.Parse.{parse_document}
use Rattle.mms_types.specs.declared.identifier.Edition.{Edition}
use Rattle.cell_config.specs.Rules.{document_of, least_broken, least_broken_of}
use Rattle.std.specs.Option.{option_map_or}

pub read : (text : List ℕ) (document : Members) → IsUtf8 text → parse_document text ≡ Some document → document_of text ≡ Some document
read text document utf8 parsed = rw (is_utf8-from_IsUtf8 text utf8) parsed

none : (text : List ℕ) → (IsUtf8 text → parse_document text ≡ None) → document_of text ≡ None
none text parsed = go (is_utf8 text) refl
  where
    go : (b : Bool) → is_utf8 text ≡ b → document_of text ≡ None
    go true is = rw is (parsed (IsUtf8-from_is_utf8 text is))
    go false is = rw is

-- a text that isn't read breaks rule 0
pub refused : (edition : Edition) (text : List ℕ) → (IsUtf8 text → parse_document text ≡ None) → least_broken edition text ≡ Some 0
refused edition text parsed = ap (λ document. option_map_or (least_broken_of edition) document (Some 0)) (none text parsed)
