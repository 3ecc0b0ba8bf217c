-- How long pieces are.
use Rattle.std.proofs.Common.{◌≡◌, ℕ, ◌-◌, min, List, [], ◌∷◌, length, refl}
use Rattle.std.specs.List.{concat}
use Rattle.std.proofs.lemmas.List.{length-append, length-drop, length-take}
use Rattle.std.proofs.lemmas.List.Sums.{sum_by-cons}
use Rattle.domain_load.specs.Domains.{octets}
use Rattle.domain_load.specs.Segmented.{octets_in, piece}
use Rattle.domain_load.specs.declared.domain.Domain.{Domain}
use Rattle.domain_upload.specs.Pieces.{most_of_piece, next_octets}

-- segments joined have as many octets as all of them together
pub length_joined : (segments : List (List ℕ)) → length (concat segments) ≡ octets_in segments
length_joined [] = refl
length_joined (s ∷ ss) = rw (length-append, length_joined ss, sum_by-cons)

-- a piece has as many octets as are asked for, or those that are left
pub length_piece : (from most : ℕ) (segments : List (List ℕ)) → length (piece from most segments) ≡ min most (octets_in segments - from)
length_piece from most segments = rw (length-take, length-drop, length_joined)

pub length_next : (size sent : ℕ) (domain : Domain) → length (next_octets size sent domain) ≡ min (most_of_piece size) (octets domain - sent)
length_next size sent domain = length_piece sent (most_of_piece size) domain.segments
