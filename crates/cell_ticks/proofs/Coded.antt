-- What code comes to, in the words of deadlines and of ticks.
use Rattle.std.proofs.Common.{◌≡◌, ◌∙◌, ap, sym, subst, refl, ℕ, zero, suc, ◌<◌, ◌≤◌, inl, inr, nat_le, nat_lt, Bool, true, false, ◌||◌, List, [], ◌∷◌, ◌++◌, fold, map, filter_map, get_or, length, Option, None, Some, is_some, IfOk, Ok, Err, Result, option_map, option_and_then, if◌then◌else◌, arith, All}
use Rattle.std.specs.List.{cons_option, list_any, AllByRecursion, IsDistinct}
use Rattle.std.specs.Map.{keys_of, values_of}
use Rattle.std.proofs.lemmas.Bool.Decides.{nat_tests}
use Rattle.mms_types.specs.Order.{key_eq}
use Rattle.mms_types.specs.declared.key.Key.{Key}
use Rattle.mms_types.specs.declared.moment.Moment.{Moment}
use Rattle.mms_time.specs.Deadlines as sem
use Rattle.mms_time.specs.Deadlines.{NamedDeadline, pick, due_sooner, until_only}
use Rattle.mms_time.specs.Semaphores as sem_rows
use Rattle.mms_time.specs.declared.row.SemaphoreRow.{SemaphoreRow}
use Rattle.sem_ticks.specs.Dated as sem_dated
use Rattle.sem_ticks.specs.Dated.{IsInOrder}
use Rattle.sem_ticks.specs.Renewed.{put_at, renewed}
use Rattle.sem_ticks.specs.Sound as sem_sound
use Rattle.sem_ticks.specs.Ticks as sem_ticks
use Rattle.sem_ticks.specs.declared.ticks.Happening as sem_happening
use Rattle.sem_ticks.proofs.Dated.{dated_rests, in_order}
use Rattle.sem_ticks.proofs.Twice.{tick_rests as tick_none}
use Rattle.event_cond.specs.Conditions as cond
use Rattle.event_cond.specs.Evaluations.{evaluation_of, evaluations, next_evaluation, next_of}
use Rattle.event_cond.specs.Kept.{IsCondition}
use Rattle.event_cond.specs.Skips.{Saying, any_due, first_due, up_to}
use Rattle.event_cond.specs.declared.condition.Condition.{Condition}
use Rattle.event_cond.proofs.Orders.{no_earlier}
use Rattle.event_cond.proofs.Soonest.{In, least_first, next_none}
use Rattle.event_enrol.specs.Enrolments as enrol
use Rattle.event_ticks.specs.Ticks as events
use Rattle.event_ticks.specs.declared.ticks.Loss.{Loss}
use Rattle.event_ticks.specs.declared.ticks.TurnTold.{TurnTold}
use Rattle.event_ticks.proofs.Due.{stands}
use Rattle.event_ticks.proofs.Ticked.{sound_is}
use Rattle.cell_ticks.specs.Coded.{sooner_if}
use Rattle.cell_ticks.specs.Deadlines.{evaluation, evaluation_due, next_due}
use Rattle.cell_ticks.specs.Meant.{AreInOrder, From, loss_in, state_of}
use Rattle.cell_ticks.specs.Parts.{in_semaphores, loss_of, losses_of, merged, of_semaphores, put_in, turning}
use Rattle.cell_ticks.specs.Sound.{IsSound}
use Rattle.cell_ticks.specs.Ticks.{Ticking, aborted_one, begun, met, next_met, ticked}
use Rattle.cell_ticks.specs.declared.happening.DatedHappening.{DatedHappening}
use Rattle.cell_ticks.specs.declared.ticking.DeviceTicked.{DeviceTicked}
use Rattle.cell_ticks.proofs.Least.{first_is, kind_before, moments_decide}
use Rattle.cell_ticks.proofs.Lists.{semaphores_from}
use Rattle.cell_ticks.proofs.Ticked.{both_parts, tick_rests}

-- ---- the next deadline

module _ (until : Moment) where
  both : (o : Option NamedDeadline) → ((d : NamedDeadline) → o ≡ Some d → d.kind < evaluation) → (n : Option (Moment × Key))
      → until_only until (pick due_sooner o (option_map evaluation_due n)) ≡ sooner_if (until_only until o) (until_only until (option_map evaluation_due n))
  both None low None = refl
  both (Some x) low None = refl
  both None low (Some e) = by_test (nat_le e.0.0 until.0)
    where
      by_test : (b : Bool) → (if b then Some (evaluation_due e) else None) ≡ sooner_if None (if b then Some (evaluation_due e) else None)
      by_test true = refl
      by_test false = refl
  both (Some x) low (Some e) =
      ap (λ (b : Bool). until_only until (Some (if b then evaluation_due e else x))) (moments_decide e x (low x refl))
      ∙ by_tests (nat_lt e.0.0 x.at.0) refl (nat_le x.at.0 until.0) refl (nat_le e.0.0 until.0) refl (nat_le x.at.0 e.0.0) refl
    where
      by_tests : (p : Bool) → nat_lt e.0.0 x.at.0 ≡ p → (q : Bool) → nat_le x.at.0 until.0 ≡ q → (r : Bool) → nat_le e.0.0 until.0 ≡ r → (w : Bool) → nat_le x.at.0 e.0.0 ≡ w
          → until_only until (Some (if p then evaluation_due e else x)) ≡ sooner_if (if q then Some x else None) (if r then Some (evaluation_due e) else None)
      by_tests true p true q true r true w = absurd (let a : e.0.0 < x.at.0 = grind (arith, nat_tests) in let b : x.at.0 ≤ e.0.0 = grind (arith, nat_tests) in omega (arith, a, b))
      by_tests true p true q true r false w =
          ap (λ (b : Bool). if b then Some (evaluation_due e) else None) r ∙ sym (ap (λ (b : Bool). Some (if b then x else evaluation_due e)) w)
      by_tests true p true q false r w ww =
          absurd
          (let a : e.0.0 < x.at.0 = grind (arith, nat_tests) in
          let b : x.at.0 ≤ until.0 = grind (arith, nat_tests) in
          let c : until.0 < e.0.0 = grind (arith, nat_tests) in
          omega (arith, a, b, c))
      by_tests true p false q true r w ww = ap (λ (b : Bool). if b then Some (evaluation_due e) else None) r
      by_tests true p false q false r w ww = ap (λ (b : Bool). if b then Some (evaluation_due e) else None) r
      by_tests false p true q true r true w = ap (λ (b : Bool). if b then Some x else None) q ∙ sym (ap (λ (b : Bool). Some (if b then x else evaluation_due e)) w)
      by_tests false p true q true r false w =
          absurd (let a : x.at.0 ≤ e.0.0 = grind (arith, nat_tests) in let b : e.0.0 < x.at.0 = grind (arith, nat_tests) in omega (arith, a, b))
      by_tests false p true q false r w ww = ap (λ (b : Bool). if b then Some x else None) q
      by_tests false p false q true r w ww =
          absurd
          (let a : x.at.0 ≤ e.0.0 = grind (arith, nat_tests) in
          let b : until.0 < x.at.0 = grind (arith, nat_tests) in
          let c : e.0.0 ≤ until.0 = grind (arith, nat_tests) in
          omega (arith, a, b, c))
      by_tests false p false q false r w ww = ap (λ (b : Bool). if b then Some x else None) q

  pub next_is : (semaphores : sem_rows.Rows) (conditions : cond.Rows)
      → sooner_if (sem.next_due until semaphores) (until_only until (option_map evaluation_due (next_evaluation conditions))) ≡ next_due until semaphores conditions
  next_is semaphores conditions =
      sym
      (ap (until_only until) (first_is semaphores conditions)
      ∙ both (sem.first_due semaphores) (kind_before semaphores) (next_evaluation conditions))

  -- ---- whether there is one

  either_is : (a b : Option NamedDeadline) → is_some (sooner_if a b) ≡ (is_some a || is_some b)
  either_is None None = refl
  either_is None (Some b) = refl
  either_is (Some a) None = refl
  either_is (Some a) (Some b) = refl

  none_here : (row : Key × Condition) (rows : cond.Rows) → any_due until (row ∷ rows) ≡ false → (is_some (first_due until row.1) ≡ false) × (any_due until rows ≡ false)
  none_here row rows h = by_both (is_some (first_due until row.1)) (any_due until rows) h
    where
      by_both : (a b : Bool) → (a || b) ≡ false → (a ≡ false) × (b ≡ false)
      by_both true b h = absurd (cc h)
      by_both false b h = (refl, h)

  late_of : (o : Option Moment) → is_some (up_to until o) ≡ false → (at : Moment) → o ≡ Some at → until.0 < at.0
  late_of None h at is = absurd (cc is)
  late_of (Some m) h at is = by_test (nat_le m.0 until.0) refl h
    where
      by_test : (b : Bool) → nat_le m.0 until.0 ≡ b → is_some (if b then Some m else None) ≡ false → until.0 < at.0
      by_test true t k = absurd (cc k)
      by_test false t k = let over : until.0 < m.0 = grind (arith, nat_tests) in let same : m ≡ at = cc is in subst (λ (x : Moment). until.0 < x.0) same over

  none_due_in : (rows : cond.Rows) → any_due until rows ≡ false → (e : Moment × Key) → In (evaluations rows) e → until.0 < e.0.0
  none_due_in [] h e there = absurd there
  none_due_in (row ∷ rows) h e there = by_next (next_of row.1) refl there (none_due_in rows (none_here row rows h).1 e)
    where
      by_next : (o : Option Moment) → next_of row.1 ≡ o → In (cons_option (option_map (λ at. (at, row.0)) o) (evaluations rows)) e → (In (evaluations rows) e → until.0 < e.0.0) → until.0 < e.0.0
      by_next None is there rest = rest there
      by_next (Some at) is (inl same) rest = subst (λ (x : Moment × Key). until.0 < x.0.0) same (late_of (next_of row.1) (none_here row rows h).0 at is)
      by_next (Some at) is (inr there) rest = rest there

  -- an evaluation that is due
  record Found (rows : cond.Rows) : Type 0 where
    evaluation : Moment × Key
    there : In (evaluations rows) evaluation
    low : evaluation.0.0 ≤ until.0

  found : (rows : cond.Rows) → any_due until rows ≡ true → Found rows
  found [] h = absurd (cc h)
  found (row ∷ rows) h = by_next (next_of row.1) refl h (found rows)
    where
      by_next : (o : Option Moment) → next_of row.1 ≡ o → (is_some (up_to until o) || any_due until rows) ≡ true → (any_due until rows ≡ true → Found rows) → Found (row ∷ rows)
      by_next None is h rest = let f = rest h in record { evaluation = f.evaluation; there = later f.evaluation f.there; low = f.low }
        where
          later : (e : Moment × Key) → In (evaluations rows) e → In (evaluations (row ∷ rows)) e
          later e there = subst (λ (o : Option Moment). In (cons_option (option_map (λ at. (at, row.0)) o) (evaluations rows)) e) (sym is) there
      by_next (Some at) is h rest = by_test (nat_le at.0 until.0) refl h
        where
          put : (e : Moment × Key) → In ((at, row.0) ∷ evaluations rows) e → In (evaluations (row ∷ rows)) e
          put e there = subst (λ (o : Option Moment). In (cons_option (option_map (λ at. (at, row.0)) o) (evaluations rows)) e) (sym is) there

          by_test : (b : Bool) → nat_le at.0 until.0 ≡ b → (is_some (if b then Some at else None) || any_due until rows) ≡ true → Found (row ∷ rows)
          by_test true t k = record { evaluation = (at, row.0); there = put (at, row.0) (inl refl); low = grind (arith, nat_tests) }
          by_test false t k = let f = rest k in record { evaluation = f.evaluation; there = put f.evaluation (inr f.there); low = f.low }

  any_is : (rows : cond.Rows) → any_due until rows ≡ is_some (until_only until (option_map evaluation_due (next_evaluation rows)))
  any_is rows = by_any (any_due until rows) refl (next_evaluation rows) refl
    where
      by_any : (b : Bool) → any_due until rows ≡ b → (o : Option (Moment × Key)) → next_evaluation rows ≡ o → any_due until rows ≡ is_some (until_only until (option_map evaluation_due o))
      by_any true t None is = let f = found rows t in absurd (subst (λ (l : List (Moment × Key)). In l f.evaluation) (next_none rows is) f.there)
      by_any true t (Some x) is =
          let f = found rows t in
          let first = no_earlier f.evaluation x (least_first (evaluations rows) x f.evaluation is f.there) in
          let by_then = f.low in
          let low : x.0.0 ≤ until.0 = omega (arith, first, by_then) in
          let yes : nat_le x.0.0 until.0 ≡ true = grind (arith, nat_tests) in
          t ∙ sym (ap (λ (b : Bool). is_some (if b then Some (evaluation_due x) else None)) yes)
      by_any false t None is = t
      by_any false t (Some x) is =
          let over = none_due_in rows t x (stands rows x is) in
          let no : nat_le x.0.0 until.0 ≡ false = grind (arith, nat_tests) in
          t ∙ sym (ap (λ (b : Bool). is_some (if b then Some (evaluation_due x) else None)) no)

  pub due_is : (semaphores : sem_rows.Rows) (conditions : cond.Rows)
      → (is_some (sem.next_due until semaphores) || any_due until conditions) ≡ is_some (next_due until semaphores conditions)
  due_is semaphores conditions =
      ap (λ (b : Bool). is_some (sem.next_due until semaphores) || b) (any_is conditions)
      ∙ sym (either_is (sem.next_due until semaphores) (until_only until (option_map evaluation_due (next_evaluation conditions))))
      ∙ ap (λ (o : Option NamedDeadline). is_some o) (next_is semaphores conditions)

  pub due_then : (semaphores : sem_rows.Rows) (conditions : cond.Rows) → is_some (sem.next_due until semaphores) ≡ true → true ≡ is_some (next_due until semaphores conditions)
  due_then semaphores conditions t = sym (ap (λ (b : Bool). b || any_due until conditions) t) ∙ due_is semaphores conditions

  pub due_else : (semaphores : sem_rows.Rows) (conditions : cond.Rows) → is_some (sem.next_due until semaphores) ≡ false → any_due until conditions ≡ is_some (next_due until semaphores conditions)
  due_else semaphores conditions t = sym (ap (λ (b : Bool). b || any_due until conditions) t) ∙ due_is semaphores conditions

-- ---- what is lost by what happens

pub losses_are : (happened : List (Moment × sem_happening.Happening)) → filter_map loss_in (map in_semaphores happened) ≡ losses_of happened
losses_are [] = refl
losses_are (h ∷ happened) = ap (cons_option (loss_of h)) (losses_are happened)

-- what happens before that moment loses nobody
abbrev IsQuiet : Moment → List DatedHappening → Type 0
IsQuiet at ys = AllByRecursion (λ y. nat_lt y.at.0 at.0 ≡ true → loss_in y ≡ None) ys

turns_quiet : (at : Moment) (told : List TurnTold) → IsQuiet at (map turning told)
turns_quiet at [] = tt
turns_quiet at (t ∷ told) = (λ e. refl, turns_quiet at told)

not_before : (at : Moment) (x : DatedHappening) → at.0 ≤ x.at.0 → nat_lt x.at.0 at.0 ≡ true → loss_in x ≡ None
not_before at x le e = absurd (let low : x.at.0 < at.0 = grind (arith, nat_tests) in omega (arith, le, low))

put_quiet : (at : Moment) (x : DatedHappening) (ys : List DatedHappening) → at.0 ≤ x.at.0 → IsQuiet at ys → IsQuiet at (put_in x ys)
put_quiet at x [] le q = (not_before at x le, tt)
put_quiet at x (y ∷ ys) le q = by_test (nat_lt y.at.0 x.at.0) (put_quiet at x ys le q.1)
  where
    by_test : (b : Bool) → IsQuiet at (put_in x ys) → IsQuiet at (if b then y ∷ put_in x ys else x ∷ y ∷ ys)
    by_test true rest = (q.0, rest)
    by_test false rest = (not_before at x le, q)

merged_quiet : (at : Moment) (xs ys : List DatedHappening) → From at xs → IsQuiet at ys → IsQuiet at (merged xs ys)
merged_quiet at [] ys all q = q
merged_quiet at (x ∷ xs) ys all q = put_quiet at x (merged xs ys) all.0 (merged_quiet at xs ys all.1 q)

put_lost : (x : DatedHappening) (ys : List DatedHappening) → IsQuiet x.at ys → filter_map loss_in (put_in x ys) ≡ cons_option (loss_in x) (filter_map loss_in ys)
put_lost x [] q = refl
put_lost x (y ∷ ys) q = by_test (nat_lt y.at.0 x.at.0) refl (put_lost x ys q.1)
  where
    by_test : (b : Bool) → nat_lt y.at.0 x.at.0 ≡ b → filter_map loss_in (put_in x ys) ≡ cons_option (loss_in x) (filter_map loss_in ys)
        → filter_map loss_in (if b then y ∷ put_in x ys else x ∷ y ∷ ys) ≡ cons_option (loss_in x) (filter_map loss_in (y ∷ ys))
    by_test true e rest =
        ap (λ (o : Option Loss). cons_option o (filter_map loss_in (put_in x ys))) (q.0 e)
        ∙ rest
        ∙ sym (ap (λ (o : Option Loss). cons_option (loss_in x) (cons_option o (filter_map loss_in ys))) (q.0 e))
    by_test false e rest = refl

-- no client is lost by what is told of conditions
none_turned : (told : List TurnTold) → filter_map loss_in (map turning told) ≡ []
none_turned [] = refl
none_turned (t ∷ told) = none_turned told

lost_merged : (xs : List DatedHappening) (told : List TurnTold) → AreInOrder xs → filter_map loss_in (merged xs (map turning told)) ≡ filter_map loss_in xs
lost_merged [] told order = none_turned told
lost_merged (x ∷ xs) told order =
    put_lost x (merged xs (map turning told)) (merged_quiet x.at xs (map turning told) order.0 (turns_quiet x.at told))
    ∙ ap (cons_option (loss_in x)) (lost_merged xs told order.1)

-- ---- the semaphores' part

in_order_so : (xs : List (Moment × sem_happening.Happening)) → IsInOrder xs → AreInOrder (map in_semaphores xs)
in_order_so [] order = tt
in_order_so (x ∷ xs) order = (semaphores_from x.0 xs order.0, in_order_so xs order.1)

pub ordered : (until : Moment) (rows : sem_rows.Rows) → AreInOrder (map in_semaphores (of_semaphores until rows))
ordered until rows = in_order_so (of_semaphores until rows) (in_order until rows)

-- in both parts those are lost that the first one aborts
pub losses_so : (until : Moment) (rows : sem_rows.Rows) (losses : List Loss) (told : List TurnTold) (first happened : List DatedHappening)
    → losses ≡ losses_of (of_semaphores until rows) → first ≡ map in_semaphores (of_semaphores until rows) → happened ≡ merged first (map turning told)
    → losses ≡ filter_map loss_in happened
losses_so until rows losses told first happened lost begins both =
    let part = of_semaphores until rows in
    lost ∙ sym (losses_are part) ∙ sym (lost_merged (map in_semaphores part) told (ordered until rows))
    ∙ ap (filter_map loss_in) (sym (both ∙ ap (λ (l : List DatedHappening). merged l (map turning told)) begins))

-- nothing is put
pub put_none : (rows : sem_rows.Rows) (places : List (ℕ × SemaphoreRow)) → places ≡ [] → fold put_at rows places ≡ rows
put_none rows places none = ap (fold put_at rows) none

module _ (until : Moment) (rows : sem_rows.Rows) (none : sem.next_due until rows ≡ None) where
  pub none_rows : rows ≡ (sem_ticks.ticked until rows).rows
  none_rows = sym (ap (λ (t : sem_ticks.Ticking). t.rows) (tick_none until (record { rows = rows; happened = [] }) (ap (option_and_then (sem_ticks.met (record { rows = rows; happened = [] }))) none)))

  none_dated : sem_dated.dated until rows ≡ record { rows = rows; happened = [] }
  none_dated = dated_rests until (record { rows = rows; happened = [] }) (ap (option_and_then (sem_dated.met_dated (record { rows = rows; happened = [] }))) none)

  pub none_happened : [] ≡ map in_semaphores (of_semaphores until rows)
  none_happened = sym (ap (λ (d : sem_dated.Dating). map in_semaphores d.happened) none_dated)

  pub none_lost : [] ≡ losses_of (of_semaphores until rows)
  none_lost = sym (ap (λ (d : sem_dated.Dating). losses_of d.happened) none_dated)

-- ---- soundness, as tables tell it

each_value : (rows : sem_rows.Rows) → All (λ row. sem_rows.IsSound row.1.semaphore) rows → All (λ (row : SemaphoreRow). sem_rows.IsSound row.semaphore) (values_of rows)
each_value [] all k d low = absurd (omega (arith, low))
each_value (row ∷ rows) all zero d low = all zero row (omega arith)
each_value (row ∷ rows) all (suc k) d low = each_value rows (λ j e less. all (suc j) e (omega (arith, less))) k d (omega (arith, low))

pub semaphores_sound : (rows : sem_rows.Rows) → IsDistinct key_eq (keys_of rows) → All (λ row. sem_rows.IsSound row.1.semaphore) rows → sem_sound.AreSound rows
semaphores_sound rows names all = record { names = names; each = each_value rows all }

module _ (cells : Saying) (until : Moment) (semaphores : sem_rows.Rows) (conditions : cond.Rows) (enrolments : enrol.Rows) where
  -- ---- both parts

  module _ (names : IsDistinct key_eq (keys_of semaphores)) (sound : All (λ row. sem_rows.IsSound row.1.semaphore) semaphores)
      (distinct : IsDistinct key_eq (keys_of conditions)) (each : All (λ row. IsCondition row.1) conditions) where
    is_sound : IsSound (begun semaphores conditions enrolments)
    is_sound = record { semaphores = semaphores_sound semaphores names sound; conditions = sound_is conditions distinct each }

    module _ (t : DeviceTicked) (rows : renewed t.changed semaphores ≡ (sem_ticks.ticked until semaphores).rows) (lost : t.losses.items ≡ losses_of (of_semaphores until semaphores))
        (told : List TurnTold) (tells : told ≡ (events.ticked cells until (events.begun conditions enrolments t.losses.items)).told)
        (first : List DatedHappening) (begins : first ≡ map in_semaphores (of_semaphores until semaphores))
        (both : t.happened.items ≡ merged first (map turning told)) where
      abbrev part : List Loss → events.Ticking
      part losses = events.ticked cells until (events.begun conditions enrolments losses)

      happens : t.happened.items ≡ merged (map in_semaphores (of_semaphores until semaphores)) (map turning (part (losses_of (of_semaphores until semaphores))).told)
      happens =
          both ∙ ap (λ (l : List DatedHappening). merged l (map turning told)) begins
          ∙ ap (λ (l : List TurnTold). merged (map in_semaphores (of_semaphores until semaphores)) (map turning l)) (tells ∙ ap (λ (l : List Loss). (part l).told) lost)

      pub ticked_so : state_of cells until t semaphores conditions enrolments ≡ ticked cells until semaphores conditions enrolments
      ticked_so =
          (λ i. record {
            semaphores = rows i;
            conditions = (part (lost i)).conditions;
            enrolments = (part (lost i)).enrolments;
            happened = happens i;
          })
          ∙ sym (both_parts cells until semaphores conditions enrolments is_sound)

  -- ---- nothing is due

  pub nothing_so : next_due until semaphores conditions ≡ None → ticked cells until semaphores conditions enrolments ≡ begun semaphores conditions enrolments
  nothing_so none =
      let s = begun semaphores conditions enrolments in tick_rests cells until s (ap (option_and_then (met cells s)) none)

-- ---- clauses

pub on_ok : {A E : Type 0} (P Q : A → Type 0) → ((x : A) → P x → Q x) → (r : Result A E) → IfOk r P → IfOk r Q
on_ok P Q f (Ok x) h = f x h
on_ok P Q f (Err e) h = tt
