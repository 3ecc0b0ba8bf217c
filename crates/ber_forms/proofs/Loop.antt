-- Reading members one after the other, as a loop does.
use Rattle.std.proofs.Common.{◌≡◌, ◌≢◌, ℕ, zero, suc, ◌-◌, ◌+◌, ◌≤◌, ◌<◌, List, [], ◌∷◌, ◌++◌, length, Result, Ok, Err, refl, sym, ap, subst, ◌∙◌, append_assoc, arith}
use Rattle.std.proofs.lemmas.List.{append-nil, length-append}
use Rattle.ber_forms.specs.declared.unread.Unread.{Unread}
use Rattle.ber_forms.specs.declared.unread.Unread.TheVariants as unread
use Rattle.ber_forms.specs.Fault.{Fault}
use Rattle.ber_forms.specs.Fault as fault
use Rattle.ber_core.specs.Part.{Part}
use Rattle.ber_core.specs.declared.element.Lengths.{Lengths}
use Rattle.ber_forms.specs.Value.{Value, nothing}
use Rattle.ber_forms.specs.Reading.{◌>>=◌, Fails, at_end, part_at, chosen_by, members_by, elements_at, required_at, alternatives}
use Rattle.ber_forms.specs.Form.{Member, Alternatives, one_of}
use Rattle.ber_forms.specs.Ahead.{Ahead}

-- what was read before, and what is still read
abbrev pub with_front : List Value → Result (List Value) Fault → Result (List Value) Fault
with_front front read = read >>= λ vs. Ok (front ++ vs)

-- So far these members were read, and what is left says the others.
pub record SoFar (take : List ℕ → Result (Value × List ℕ) Fault) (front : List Value) (rest whole : List ℕ) : Type 0 where
  pub room : length front + length rest ≤ length whole
  pub total : with_front front (members_by take (length whole - length front) rest) ≡ members_by take (length whole) whole

pub begins_so : (take : List ℕ → Result (Value × List ℕ) Fault) (whole : List ℕ) → SoFar take [] whole whole
begins_so take whole =
    let k : length whole - 0 ≡ length whole = omega arith in
    record { room = omega arith; total = ap (λ (n : ℕ). with_front [] (members_by take n whole)) k ∙ same (members_by take (length whole) whole) }
  where
    same : (read : Result (List Value) Fault) → with_front [] read ≡ read
    same (Ok vs) = refl
    same (Err e) = refl

regroup : (front : List Value) (v : Value) (read : Result (List Value) Fault) → with_front front (read >>= λ vs. Ok (v ∷ vs)) ≡ with_front (front ++ v ∷ []) read
regroup front v (Ok vs) = ap (λ (ns : List Value). Ok ns) (simp append_assoc)
regroup front v (Err f) = refl

pub step : (take : List ℕ → Result (Value × List ℕ) Fault) (k : ℕ) (rest : List ℕ) → rest ≢ [] → members_by take (suc k) rest ≡ (take rest >>= λ x. members_by take k x.1 >>= λ vs. Ok (x.0 ∷ vs))
unfolding members_by
step take k [] some = absurd (some refl)
step take k (a ∷ rest) some = refl

positive : (rest : List ℕ) → rest ≢ [] → 0 < length rest
positive [] some = absurd (some refl)
positive (a ∷ rest) some = omega arith

pub goes_on : (take : List ℕ → Result (Value × List ℕ) Fault) (front : List Value) (rest whole : List ℕ) (v : Value) (after : List ℕ) → rest ≢ [] → take rest ≡ Ok (v, after) → length after < length rest
    → SoFar take front rest whole → SoFar take (front ++ v ∷ []) after whole
goes_on take front rest whole v after some one shorter so_far =
    let long = positive rest some in
    let len : length (front ++ v ∷ []) ≡ length front + 1 = length-append front (v ∷ []) in
    let k : length whole - length front ≡ suc (length whole - length (front ++ v ∷ [])) = omega (arith, len, so_far.room) in
    let now : members_by take (length whole - length front) rest ≡ (members_by take (length whole - length (front ++ v ∷ [])) after >>= λ vs. Ok (v ∷ vs)) =
    ap (λ (n : ℕ). members_by take n rest) k ∙ step take (length whole - length (front ++ v ∷ [])) rest some ∙ ap (λ (r : Result (Value × List ℕ) Fault). r >>= λ x. members_by take (length whole - length (front ++ v ∷ [])) x.1 >>= λ vs. Ok (x.0 ∷ vs)) one in
    record {
      room = omega (arith, len, so_far.room);
      total = sym (ap (with_front front) now ∙ regroup front v (members_by take (length whole - length (front ++ v ∷ [])) after)) ∙ so_far.total;
    }

stops : (take : List ℕ → Result (Value × List ℕ) Fault) (e : Fault) (front : List Value) (rest whole : List ℕ) → rest ≢ [] → take rest ≡ Err e
    → SoFar take front rest whole → members_by take (length whole) whole ≡ Err e
stops take e front rest whole some one so_far =
    let long = positive rest some in
    let k : length whole - length front ≡ suc (length whole - (length front + 1)) = omega (arith, so_far.room) in
    let now : members_by take (length whole - length front) rest ≡ Err e =
    ap (λ (n : ℕ). members_by take n rest) k ∙ step take (length whole - (length front + 1)) rest some ∙ ap (λ (r : Result (Value × List ℕ) Fault). r >>= λ x. members_by take (length whole - (length front + 1)) x.1 >>= λ vs. Ok (x.0 ∷ vs)) one in
    sym so_far.total ∙ ap (with_front front) now

pub nothing_left : (take : List ℕ → Result (Value × List ℕ) Fault) (k : ℕ) → members_by take k [] ≡ Ok []
unfolding members_by at_end
nothing_left take zero = refl
nothing_left take (suc k) = refl

pub ends : (take : List ℕ → Result (Value × List ℕ) Fault) (e : Unread) (front : List Value) (rest whole : List ℕ) → rest ≢ [] → Fails e (take rest)
    → SoFar take front rest whole → Fails e (members_by take (length whole) whole)
ends take unread.Memory front rest whole some fails so_far = tt
ends take unread.Malformed front rest whole some fails so_far = stops take fault.malformed front rest whole some fails so_far
ends take unread.TooDeep front rest whole some fails so_far = stops take fault.too_deep front rest whole some fails so_far

pub is_done : (take : List ℕ → Result (Value × List ℕ) Fault) (front : List Value) (rest whole : List ℕ) → rest ≡ [] → SoFar take front rest whole → members_by take (length whole) whole ≡ Ok front
is_done take front rest whole none so_far =
    sym so_far.total ∙ ap (with_front front) (ap (members_by take (length whole - length front)) none ∙ nothing_left take (length whole - length front)) ∙ ap (λ (ns : List Value). Ok ns) (append-nil front)

-- what the next element is read as
pub chosen_ok : (lengths : Lengths) (read : Part → Result Value Fault) (octets : List ℕ) (p : Part) (after : List ℕ) (v : Value) → part_at lengths octets ≡ Ok (p, after) → read p ≡ Ok v → chosen_by lengths read octets ≡ Ok (v, after)
unfolding chosen_by
chosen_ok lengths read octets p after v first second = rw (first, second) refl

pub chosen_not_read : (lengths : Lengths) (read : Part → Result Value Fault) (octets : List ℕ) (p : Part) (after : List ℕ) (e : Unread) → part_at lengths octets ≡ Ok (p, after) → Fails e (read p) → Fails e (chosen_by lengths read octets)
unfolding chosen_by
chosen_not_read lengths read octets p after unread.Memory first second = tt
chosen_not_read lengths read octets p after unread.Malformed first second = rw (first, second) refl
chosen_not_read lengths read octets p after unread.TooDeep first second = rw (first, second) refl

pub chosen_not_cut : (lengths : Lengths) (read : Part → Result Value Fault) (octets : List ℕ) (e : Unread) → Fails e (part_at lengths octets) → Fails e (chosen_by lengths read octets)
unfolding chosen_by
chosen_not_cut lengths read octets unread.Memory first = tt
chosen_not_cut lengths read octets unread.Malformed first = rw first refl
chosen_not_cut lengths read octets unread.TooDeep first = rw first refl

-- ---- elements that aren't kept

module _ (lengths : Lengths) where
  abbrev pub one_by : List ℕ → Result (Value × List ℕ) Fault
  one_by = chosen_by lengths (λ _. Ok nothing)

  -- so far some elements were read
  abbrev pub Passed : List ℕ → List ℕ → Type 0
  Passed rest whole = (front : List Value) × SoFar one_by front rest whole

  pub passed_none : (whole : List ℕ) → Passed whole whole
  passed_none whole = ([], begins_so one_by whole)

  pub passed_one : (rest whole after : List ℕ) (p : Part) → rest ≢ [] → part_at lengths rest ≡ Ok (p, after) → length after < length rest → Passed rest whole → Passed after whole
  passed_one rest whole after p some one shorter so_far =
      (so_far.0 ++ nothing ∷ [], goes_on one_by so_far.0 rest whole nothing after some (chosen_ok lengths (λ _. Ok nothing) rest p after nothing one refl) shorter so_far.1)

  pub passed_all : (rest whole : List ℕ) → rest ≡ [] → Passed rest whole → elements_at lengths whole ≡ Ok tt
  unfolding elements_at
  passed_all rest whole none so_far = ap (λ (r : Result (List Value) Fault). r >>= λ _. Ok tt) (is_done one_by so_far.0 rest whole none so_far.1)

  pub passed_not : (e : Unread) (rest whole : List ℕ) → rest ≢ [] → Fails e (part_at lengths rest) → Passed rest whole → Fails e (elements_at lengths whole)
  unfolding elements_at
  passed_not unread.Memory rest whole some fails so_far = tt
  passed_not unread.Malformed rest whole some fails so_far =
      ap (λ (r : Result (List Value) Fault). r >>= λ _. Ok tt) (ends one_by unread.Malformed so_far.0 rest whole some (chosen_not_cut lengths (λ _. Ok nothing) rest unread.Malformed fails) so_far.1)
  passed_not unread.TooDeep rest whole some fails so_far =
      ap (λ (r : Result (List Value) Fault). r >>= λ _. Ok tt) (ends one_by unread.TooDeep so_far.0 rest whole some (chosen_not_cut lengths (λ _. Ok nothing) rest unread.TooDeep fails) so_far.1)

-- ---- members that a cursor reads

module _ (lengths : Lengths) (m : Member) where
  -- so far these members were read, and this lies before the cursor
  abbrev pub ReadSoFar : List Value → Ahead → List ℕ → Type 0
  ReadSoFar front now whole = (now.lengths ≡ lengths) × SoFar (required_at lengths m) front now.octets whole

  pub one_read : (front : List Value) (now after : Ahead) (whole : List ℕ) (v : Value) → now.octets ≢ [] → required_at now.lengths m now.octets ≡ Ok (v, after.octets)
      → after.lengths ≡ now.lengths → length after.octets < length now.octets → ReadSoFar front now whole → ReadSoFar (front ++ v ∷ []) after whole
  one_read front now after whole v some one kept shorter so_far =
      let here = subst (λ (n : Lengths). required_at n m now.octets ≡ Ok (v, after.octets)) so_far.0 one in
      (kept ∙ so_far.0, goes_on (required_at lengths m) front now.octets whole v after.octets some here shorter so_far.1)

  pub read_fails : (e : Unread) (front : List Value) (now : Ahead) (whole : List ℕ) → now.octets ≢ [] → Fails e (required_at now.lengths m now.octets)
      → ReadSoFar front now whole → Fails e (members_by (required_at lengths m) (length whole) whole)
  read_fails e front now whole some fails so_far =
      ends (required_at lengths m) e front now.octets whole some (subst (λ (n : Lengths). Fails e (required_at n m now.octets)) so_far.0 fails) so_far.1

  pub all_read : (front : List Value) (now : Ahead) (whole : List ℕ) → now.octets ≡ [] → ReadSoFar front now whole → members_by (required_at lengths m) (length whole) whole ≡ Ok front
  all_read front now whole none so_far = is_done (required_at lengths m) front now.octets whole none so_far.1

-- the same where each member is an untagged choice, whose element is taken first
module _ (lengths : Lengths) (others : Alternatives) where
  pub one_chosen : (front : List Value) (now after : Ahead) (whole : List ℕ) (p : Part) (v : Value) → now.octets ≢ [] → part_at now.lengths now.octets ≡ Ok (p, after.octets)
      → after.lengths ≡ now.lengths → length after.octets < length now.octets → alternatives lengths others p ≡ Ok v
      → ReadSoFar lengths (one_of others) front now whole → ReadSoFar lengths (one_of others) (front ++ v ∷ []) after whole
  one_chosen front now after whole p v some one kept shorter is so_far =
      let here = subst (λ (n : Lengths). part_at n now.octets ≡ Ok (p, after.octets)) so_far.0 one in
      (kept ∙ so_far.0, goes_on (required_at lengths (one_of others)) front now.octets whole v after.octets some (chosen_ok lengths (alternatives lengths others) now.octets p after.octets v here is) shorter so_far.1)

  pub cut_fails : (e : Unread) (front : List Value) (now : Ahead) (whole : List ℕ) → now.octets ≢ [] → Fails e (part_at now.lengths now.octets)
      → ReadSoFar lengths (one_of others) front now whole → Fails e (members_by (required_at lengths (one_of others)) (length whole) whole)
  cut_fails e front now whole some fails so_far =
      ends (required_at lengths (one_of others)) e front now.octets whole some
      (chosen_not_cut lengths (alternatives lengths others) now.octets e (subst (λ (n : Lengths). Fails e (part_at n now.octets)) so_far.0 fails)) so_far.1

  pub choice_fails : (e : Unread) (front : List Value) (now after : Ahead) (whole : List ℕ) (p : Part) → now.octets ≢ [] → part_at now.lengths now.octets ≡ Ok (p, after.octets)
      → Fails e (alternatives lengths others p) → ReadSoFar lengths (one_of others) front now whole → Fails e (members_by (required_at lengths (one_of others)) (length whole) whole)
  choice_fails e front now after whole p some one fails so_far =
      let here = subst (λ (n : Lengths). part_at n now.octets ≡ Ok (p, after.octets)) so_far.0 one in
      ends (required_at lengths (one_of others)) e front now.octets whole some (chosen_not_read lengths (alternatives lengths others) now.octets p after.octets e here fails) so_far.1
