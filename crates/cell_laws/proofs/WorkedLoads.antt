-- Worked examples of what histories tell of loads, typed by hand from the definitions.
use Rattle.std.specs.Prelude.{◌≡◌, ℕ, Bool, true, false, List, [], ◌∷◌, ◌++◌, Option, None, Some}
use Rattle.std.proofs.Common.{refl}
use Rattle.std.proofs.lemmas.List.Elements.{All-cons, All-nil}
use Rattle.mms_types.specs.declared.asked.Asked.TheVariants as asks
use Rattle.mms_types.specs.declared.asked.Reply.TheVariants as reply
use Rattle.mms_types.specs.declared.domain.InitiateDownloadSequence.{InitiateDownloadSequence}
use Rattle.mms_types.specs.declared.pdu.Request.TheVariants as request
use Rattle.domain_load.specs.declared.domain.Domain.{Domain}
use Rattle.cell_laws.specs.Loads.{Answers, Begins, LoadStep, WasLoaded, breaks_off, but_last, last_load, load_begun}

-- "D1", "D2"
abbrev d1 : List ℕ
d1 = 68 ∷ 49 ∷ []

abbrev d2 : List ℕ
d2 = 68 ∷ 50 ∷ []

abbrev asked : List ℕ → InitiateDownloadSequence
asked name = record { domain = name; capabilities = []; sharable = true }

-- client 7 loads D1 with two segments; meanwhile client 8 begins to load D2, and its first segment fails
abbrev steps : List LoadStep
steps =
    Begins 7 (asked d1)
    ∷ Answers 7 (reply.Segment d1 (170 ∷ 187 ∷ []) true)
    ∷ Begins 8 (asked d2)
    ∷ Answers 7 (reply.Segment d1 (204 ∷ []) false)
    ∷ Answers 8 (reply.Failed d2 asks.Segment)
    ∷ Answers 7 (reply.Ended d1)
    ∷ []

to_first : last_load d1 steps ≡ Some (record {
  client = 7;
  asked = asked d1;
  answers = (7, reply.Segment d1 (170 ∷ 187 ∷ []) true) ∷ (7, reply.Segment d1 (204 ∷ []) false) ∷ (7, reply.Ended d1) ∷ [];
})
to_first = refl

to_second : last_load d2 steps ≡ Some (record { client = 8; asked = asked d2; answers = (8, reply.Failed d2 asks.Segment) ∷ [] })
to_second = refl

-- no load of D1 began, and none of another name is one of D1
no_load : last_load d1 (Begins 8 (asked d2) ∷ Answers 8 (reply.Ended d2) ∷ []) ≡ None
no_load = refl

-- a load that begins anew forgets what was answered before
anew : last_load d2 (steps ++ Begins 7 (asked d2) ∷ []) ≡ Some (record { client = 7; asked = asked d2; answers = [] })
anew = refl

abbrev held : Option ℕ → List (List ℕ) → Domain
held loader segments = record { capabilities = []; sharable = true; loader = loader; segments = segments; invocations = [] }

-- so D1 was loaded by client 7
loaded : WasLoaded d1 (held None ((170 ∷ 187 ∷ []) ∷ (204 ∷ []) ∷ [])) (last_load d1 steps)
loaded = record {
  client = 7;
  asked = asked d1;
  parts = ((170 ∷ 187 ∷ []), true) ∷ [];
  final = 204 ∷ [];
  is = refl;
  more = All-cons (λ (part : List ℕ × Bool). part.1 ≡ true) ((170 ∷ 187 ∷ []), true) [] refl (All-nil (λ (part : List ℕ × Bool). part.1 ≡ true));
  segments = refl;
  capabilities = refl;
  sharable = refl;
}

all_but_one : but_last {A = ℕ} (1 ∷ 2 ∷ 3 ∷ []) ≡ 1 ∷ 2 ∷ []
all_but_one = refl

-- a request for something else begins none
begins_none : load_begun 7 request.Identify ≡ None
begins_none = refl

fails : breaks_off (reply.Failed d1 asks.Terminate) [] ≡ true
fails = refl

ends_none : breaks_off (reply.Ended d1) [] ≡ false
ends_none = refl
