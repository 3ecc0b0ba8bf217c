-- The pieces in which the octets of a domain are sent (ISO 9506-2, UploadSegment).
use Rattle.std.specs.Prelude.{ℕ, ◌+◌, ◌-◌, min, nat_lt, List, length}
use Rattle.mms_types.specs.declared.domain.Segment.{Segment}
use Rattle.domain_load.specs.Domains.{octets}
use Rattle.domain_load.specs.Segmented.{piece}
use Rattle.domain_load.specs.declared.domain.Domain.{Domain}

-- the most octets of a piece, by the size of a PDU that was negotiated with its client: 64 are left for what stands around them in the answer
-- (this profile's choice)
abbrev pub most_of_piece : ℕ → ℕ
most_of_piece size = min (size - 64) 4096

-- the octets of the next piece, where so many were sent: as many of the others as a piece may have
abbrev pub next_octets : ℕ → ℕ → Domain → List ℕ
next_octets size sent domain = piece sent (most_of_piece size) domain.segments

-- the next piece: more come after it unless all octets are sent with it
abbrev pub next_piece : ℕ → ℕ → Domain → Segment
next_piece size sent domain =
    let these = next_octets size sent domain in record { octets = these; more = nat_lt (sent + length these) (octets domain) }
