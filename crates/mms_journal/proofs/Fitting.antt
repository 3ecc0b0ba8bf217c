-- An entry whose texts and bit strings are of their forms is of its form.
use Rattle.std.proofs.Common.{◌≡◌, ◌∙◌, ap, subst, sym, refl, ℕ, zero, suc, ◌+◌, ◌-◌, ◌*◌, ◌/◌, ◌^◌, ◌≤◌, ◌<◌, ◌==◌, nat_lt, Bool, IsTrue, true, false, List, [], ◌∷◌, arith, get_or, length, take}
use Rattle.std.proofs.lemmas.Bool.Decides.{nat_tests}
use Rattle.ber_forms.specs.Bits.{cleared}
use Rattle.ber_forms.specs.Fits.{Every, Fits, FitsMember, FitsOne}
use Rattle.ber_forms.specs.Form.{any_number, bit_string, one_of}
use Rattle.ber_forms.specs.Value as value
use Rattle.ber_forms.proofs.Told.{list_fits, natural_fits, optionally_fits}
use Rattle.mms_types.specs.ConditionStates.{condition_state_number}
use Rattle.mms_types.specs.Datum.{Datum, Row, array, structure, boolean, bits, integer, unsigned, floating, octets, visible, time, no_part, part, row, depth, deepest}
use Rattle.mms_types.specs.declared.condition.ConditionState.{ConditionState}
use Rattle.mms_types.specs.declared.condition.ConditionState.TheVariants.{Disabled, Idle, Active}
use Rattle.mms_types.specs.declared.identifier.Edition.TheVariants.{Two}
use Rattle.mms_types.specs.declared.journal.EntryContent.{EntryContent}
use Rattle.mms_types.specs.declared.journal.EntryContent.TheVariants.{Data, Text}
use Rattle.mms_types.specs.declared.journal.JournalEntry.{JournalEntry}
use Rattle.mms_types.specs.declared.journal.JournalEvent.{JournalEvent}
use Rattle.mms_types.specs.declared.journal.JournalVariable.{JournalVariable}
use Rattle.pdu_data.specs.Data.{data_alternatives, data_choice, data_value, row_values}
use Rattle.pdu_names.specs.Kinds.{IsOf, context, universal}
use Rattle.pdu_events.specs.Entries.{entry_contents, journal_entry, journal_event, journal_variable, journal_variables}
use Rattle.mms_journal.specs.Formed.{AreFormed, AreVariables, IsContent, IsEvent, IsFormed, IsVariable}

-- ---- bit strings

pub clear_last : (u : ℕ) (a : ℕ) (rest : List ℕ) (i : ℕ) → length (a ∷ rest) ≡ suc i → get_or (a ∷ rest) i 0 / 2 ^ u * 2 ^ u ≡ get_or (a ∷ rest) i 0 → cleared u (a ∷ rest) ≡ a ∷ rest
clear_last u a [] zero is e = ap (λ n. n ∷ []) e
clear_last u a [] (suc i) is e = absurd (omega (arith, is))
clear_last u a (b ∷ rest) zero is e = absurd (omega (arith, is))
clear_last u a (b ∷ rest) (suc i) is e = ap (λ l. a ∷ l) (clear_last u b rest i (omega (arith, is)) e)

pub clear_is : (u : ℕ) (octets : List ℕ) → 1 ≤ length octets → u ≤ 7 → IsTrue (get_or octets (length octets - 1) 0 / 2 ^ u * 2 ^ u == get_or octets (length octets - 1) 0)
    → Fits bit_string (value.bits u octets)
clear_is u [] long low t = absurd (omega (arith, long))
clear_is u (a ∷ rest) long low t =
    let last = get_or (a ∷ rest) (length (a ∷ rest) - 1) 0 in
    let same : last / 2 ^ u * 2 ^ u ≡ last = nat_eq_is (last / 2 ^ u * 2 ^ u) last t in
    (low, clear_last u a rest (length (a ∷ rest) - 1) (omega arith) same)
  where
    nat_eq_is : (m n : ℕ) → IsTrue (m == n) → m ≡ n
    nat_eq_is m n h = grind (arith, nat_tests, h)

last_cleared : (u a : ℕ) (rest : List ℕ) (i : ℕ) → length (a ∷ rest) ≡ suc i → get_or (cleared u (a ∷ rest)) i 0 ≡ get_or (a ∷ rest) i 0 / 2 ^ u * 2 ^ u
last_cleared u a [] zero is = refl
last_cleared u a [] (suc i) is = absurd (omega (arith, is))
last_cleared u a (b ∷ rest) zero is = absurd (omega (arith, is))
last_cleared u a (b ∷ rest) (suc i) is = last_cleared u b rest i (omega (arith, is))

-- a bit string of its form has no more unused bits than there can be, and none that is set
pub clear_of : (u : ℕ) (octets : List ℕ) → 1 ≤ length octets → Fits bit_string (value.bits u octets)
    → (u ≤ 7) × IsTrue (get_or octets (length octets - 1) 0 / 2 ^ u * 2 ^ u == get_or octets (length octets - 1) 0)
clear_of u [] long h = absurd (omega (arith, long))
clear_of u (a ∷ rest) long h =
    let i = length (a ∷ rest) - 1 in
    let last = get_or (a ∷ rest) i 0 in
    let same : last / 2 ^ u * 2 ^ u ≡ last = sym (last_cleared u a rest i (omega arith)) ∙ ap (λ l. get_or l i 0) h.1 in
    (h.0, is_nat_eq (last / 2 ^ u * 2 ^ u) last same)
  where
    is_nat_eq : (m n : ℕ) → m ≡ n → IsTrue (m == n)
    is_nat_eq m n h = grind (arith, nat_tests, h)

-- ---- data

mutual
  unfolding data_alternatives

  pub data_fits : (d : ℕ) (x : Datum) → IsFormed x → depth x ≤ d → FitsOne (data_alternatives d) (data_value x)
  data_fits zero (array r) h low = absurd (omega (arith, low))
  data_fits (suc d) (array r) h low = (row_values r, refl, row_fits d r h (omega (arith, low)), refl)
  data_fits zero (structure r) h low = absurd (omega (arith, low))
  data_fits (suc d) (structure r) h low = (row_values r, refl, row_fits d r h (omega (arith, low)), refl)
  data_fits zero (boolean b) h low = tt
  data_fits (suc d) (boolean b) h low = tt
  data_fits zero (bits u o) h low = h
  data_fits (suc d) (bits u o) h low = h
  data_fits zero (integer n) h low = h
  data_fits (suc d) (integer n) h low = h
  data_fits zero (unsigned n) h low = h
  data_fits (suc d) (unsigned n) h low = h
  data_fits zero (floating o) h low = refl
  data_fits (suc d) (floating o) h low = refl
  data_fits zero (octets o) h low = refl
  data_fits (suc d) (octets o) h low = refl
  data_fits zero (visible o) h low = h
  data_fits (suc d) (visible o) h low = h
  data_fits zero (time o) h low = refl
  data_fits (suc d) (time o) h low = refl

  row_fits : (d : ℕ) (r : Row) → AreFormed r → deepest r ≤ d → Every (FitsMember (one_of (data_alternatives d))) (row_values r)
  row_fits d no_part h low = tt
  row_fits d (part x r) h low = (data_fits d x h.0 (omega (arith, low)), row_fits d r h.1 (omega (arith, low)))

value_fits : (x : Datum) → IsFormed x → depth x ≤ 10 → FitsOne (data_choice.alternatives Two) (data_choice.value x)
unfolding data_choice
value_fits x h low = data_fits 10 x h low

formed_more : (xs : List Datum) (i : ℕ) (x : Datum) → i < length xs → x ≡ get_or xs i x → AreFormed (row (take i xs)) → IsFormed x → AreFormed (row (take (suc i) xs))
formed_more [] i x low is front h = absurd (omega (arith, low))
formed_more (y ∷ ys) zero x low is front h = (subst IsFormed is h, tt)
formed_more (y ∷ ys) (suc i) x low is front h = (front.0, formed_more ys i x (omega (arith, low)) is front.1 h)

-- one more part of those up to a place
pub formed_next : (xs : List Datum) (i : ℕ) (x : Datum) → i < length xs → x ≡ get_or xs i x → AreFormed (row (take i xs)) → IsFormed x → AreFormed (row (take (i + 1) xs))
formed_next xs i x low is front h =
    let step : suc i ≡ i + 1 = omega arith in
    subst (λ n. AreFormed (row (take n xs))) step (formed_more xs i x low is front h)

-- each part of data that is of its form is of its form
pub formed_at : (xs : List Datum) (i : ℕ) (x : Datum) → i < length xs → x ≡ get_or xs i x → AreFormed (row xs) → IsFormed x
formed_at [] i x low is h = absurd (omega (arith, low))
formed_at (y ∷ ys) zero x low is h = subst IsFormed (sym is) h.0
formed_at (y ∷ ys) (suc i) x low is h = formed_at ys i x (omega (arith, low)) is h.1

-- ---- variables, events and entries

variable_fits : (v : JournalVariable) → IsVariable v → Fits (journal_variable.form Two) (journal_variable.value v)
variable_fits v h = (h.tag, (value_fits v.value h.value h.deep, tt))

variables_fit : (vs : List JournalVariable) → AreVariables vs → Fits (journal_variables.form Two) (journal_variables.value vs)
variables_fit vs h = list_fits any_number ((universal 16 journal_variable).member Two) journal_variable.value IsVariable variable_fits vs h refl

state_fits : (s : ConditionState) → condition_state_number s ≤ 2
state_fits Disabled = omega arith
state_fits Idle = omega arith
state_fits Active = omega arith

event_fits : (e : JournalEvent) → IsEvent e → Fits (journal_event.form Two) (journal_event.value e)
unfolding journal_event
event_fits e h = (h, (natural_fits 2 (condition_state_number e.state) (state_fits e.state), tt))

content_fits : (c : EntryContent) → IsContent c → FitsOne (entry_contents.alternatives Two) (entry_contents.value c)
unfolding entry_contents
content_fits (Data event variables) h = (
  optionally_fits (FitsMember ((context 0 journal_event).member Two)) journal_event.value IsEvent event_fits event h.0,
  (optionally_fits (FitsMember ((context 1 journal_variables).member Two)) journal_variables.value AreVariables variables_fit variables h.1, tt),
)
content_fits (Text text) h = h

pub entry_fits : (e : JournalEntry) → IsContent e.content → IsOf journal_entry Two e
entry_fits e h = (refl, (content_fits e.content h, tt))

-- ---- one more element that is so

same_at : {X : Type 0} (xs : List X) (i : ℕ) (x d : X) → i < length xs → get_or xs i x ≡ get_or xs i d
same_at [] i x d low = absurd (omega (arith, low))
same_at (y ∷ ys) zero x d low = refl
same_at (y ∷ ys) (suc i) x d low = same_at ys i x d (omega (arith, low))

pub each_more : {X : Type 0} (P : X → Type 0) (xs : List X) (i : ℕ) (x : X) → i < length xs → x ≡ get_or xs i x → P x → ((k : ℕ) (d : X) → k < i → P (get_or xs k d))
    → (k : ℕ) (d : X) → k < i + 1 → P (get_or xs k d)
each_more P xs i x low is here before k d lower = by_test (nat_lt k i) refl
  where
    by_test : (b : Bool) → nat_lt k i ≡ b → P (get_or xs k d)
    by_test true t = before k d (grind (arith, nat_tests, t))
    by_test false t =
        let same : i ≡ k = grind (arith, nat_tests, t, lower) in
        subst (λ (n : ℕ). P (get_or xs n d)) same (subst P (is ∙ same_at xs i x d low) here)
