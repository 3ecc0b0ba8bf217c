-- What clients are asked of the domains that they load, and the uploads that are open, stay right whatever clients are
-- told, and whatever is done to domains.
use Rattle.std.specs.Prelude.{◌≡◌, ◌≢◌, ℕ, zero, suc, Bool, true, false, Option, None, Some, List, [], ◌∷◌, ◌++◌, slice_get, Result, Ok, Err, refl}
use Rattle.std.specs.Option.{option_map}
use Rattle.std.proofs.Common.{ap, sym, ◌∙◌, subst, arith}
use native.Mathlib.Decide.{ℕ_discrete}
use Rattle.mms_types.proofs.Conditions.{none_holds}
use Rattle.mms_types.specs.Errors.{object_constraint_conflict, object_non_existent, object_state_conflict}
use Rattle.mms_types.specs.declared.asked.Asked.{Asked}
use Rattle.mms_types.specs.declared.asked.Asked.TheVariants as asks
use Rattle.mms_types.specs.declared.domain.InitiateDownloadSequence.{InitiateDownloadSequence}
use Rattle.mms_types.specs.declared.invocation.CreateProgramInvocation.{CreateProgramInvocation}
use Rattle.mms_types.specs.declared.service_error.ServiceError.{ServiceError}
use Rattle.association.specs.Admission.{admission, waiting_if}
use Rattle.association.specs.Asked.{AreApart, unsettled}
use Rattle.association.specs.Client.{ClientRow}
use Rattle.association.specs.declared.client_part.NotAdmitted.{NotAdmitted}
use Rattle.association.specs.declared.unanswered.Unanswered.{Unanswered}
use Rattle.association.specs.declared.waiting.Waiting.{Waiting}
use Rattle.domain_load.specs.Domains.{Rows, delete_cause, is_held, is_there, without, without_loads}
use Rattle.domain_load.specs.Loading.{answers_load, asked_next, initiate_after, initiate_cause, reply_after}
use Rattle.domain_load.specs.Standing.{is_loading}
use Rattle.domain_load.specs.Used.{after_unused, after_used}
use Rattle.program_inv.specs.Programs as program
use Rattle.program_inv.specs.Programs.{Rows as ProgramRows, after_create, after_delete, create_cause}
use Rattle.program_inv.specs.declared.invocation.Invocation.{Invocation}
use Rattle.domain_upload.proofs.Kept.{lose_keeps}
use Rattle.domain_upload.proofs.Others.{begin_keeps, delete_keeps, loss_keeps, reply_keeps}
use Rattle.domain_upload.specs.Uploads.{AreOf, uploads_of}
use Rattle.parted_state.specs.ListsLaws.{get_change, get_changed}
use Rattle.parted_state.specs.Served.{change, delivered, reached}
use Rattle.cell_client.specs.Association.{Came}
use Rattle.cell_client.specs.Effects.{Effect, Sends, Opens, Closes, Waits, Answers, Drains, Asks, Settles, felt, felt_all, tell}
use Rattle.serve_domains.proofs.Answered.{IsOfLoad, domain_answered, loads_it}
use Rattle.serve_domains.proofs.LoadLaws.{begins_asked, begins_elsewhere, deleted, lost, lost_elsewhere, replied_asked, replied_elsewhere, unused_loads, used_loads}
use Rattle.serve_domains.proofs.UserLaws.{unused_keeps, used_keeps}
use Rattle.serve_domains.specs.Domains.{asks_next, reply_of, reply_told}
use Rattle.serve_domains.specs.Loads.{AreLoads, asked_after}
use Rattle.serve_domains.specs.Tables.{DomainTables}
use Rattle.serve_domains.specs.Tables as domains
use Rattle.serve_programs.proofs.LoadedLaws.{begins_keeps, lost_keeps, without_keeps}
use Rattle.serve_programs.proofs.LoadedLaws.{reply_keeps as reply_keeps_used}
use Rattle.serve_programs.proofs.UsedLaws.{create_keeps}
use Rattle.serve_programs.proofs.UsedLaws.{delete_keeps as delete_keeps_used}
use Rattle.serve_programs.specs.Users.{AreUsed}
use Rattle.step_sound.proofs.DomainNames.{HaveNames, begun_names, deleted_names, lost_names, replied_names, unused_names, used_names}
use Rattle.step_parts.proofs.PartsAfter.{told_one}
use Rattle.step_parts.specs.Partition.{cell}

-- ---- what holds of domains, uploads and clients

-- of each client the server's unanswered requests of a load are of the domains that it loads, one of each
abbrev pub AreAllLoads : List ClientRow → Rows → Type 0
AreAllLoads rows domains = (i : ℕ) (row : ClientRow) → slice_get rows i ≡ Some row → AreLoads (suc i) row.asked domains

-- beside the program invocations
pub record AreSane (t : DomainTables) (rows : List ClientRow) : Type 0 where
  pub names : HaveNames t.domains
  pub loads : AreAllLoads rows t.domains
  pub uploads : AreOf t.uploads t.domains

pub record AreRight (t : DomainTables) (programs : ProgramRows) (rows : List ClientRow) : Type 0 where
  pub names : HaveNames t.domains
  pub loads : AreAllLoads rows t.domains
  pub uploads : AreOf t.uploads t.domains
  pub used : AreUsed t.domains programs

sane_in : {programs : ProgramRows} → (t : DomainTables) (rows : List ClientRow) → AreRight t programs rows → AreSane t rows
sane_in t rows right = record { names = right.names; loads = right.loads; uploads = right.uploads }

with_used : {programs : ProgramRows} → (t : DomainTables) (rows : List ClientRow) → AreSane t rows → AreUsed t.domains programs → AreRight t programs rows
with_used t rows sane used = record { names = sane.names; loads = sane.loads; uploads = sane.uploads; used = used }

-- ---- one client is told something

module _ (before after : Rows) where
  -- what any other client loads, it loads as before
  abbrev pub OthersStay : ℕ → Type 0
  OthersStay client = (other : ℕ) (asked : List Unanswered) → client ≢ other → AreLoads other asked before → AreLoads other asked after

  pub changed_loads : (f : ClientRow → ClientRow) (rows : List ClientRow) (k : ℕ) → AreAllLoads rows before → OthersStay (suc k)
      → ((row : ClientRow) → slice_get rows k ≡ Some row → AreLoads (suc k) (f row).asked after) → AreAllLoads (change f rows k) after
  changed_loads f rows k loads others here i row there = by_place (ℕ_discrete i k)
    where
      by_value : (o : Option ClientRow) → slice_get rows k ≡ o → option_map f o ≡ Some row → AreLoads (suc k) row.asked after
      by_value None e is = absurd (cc is)
      by_value (Some r) e is =
          let same : f r ≡ row = cc is in
          subst (λ (x : ClientRow). AreLoads (suc k) x.asked after) same (here r e)

      by_place : Dec (i ≡ k) → AreLoads (suc i) row.asked after
      by_place (yes same) =
          subst (λ (m : ℕ). AreLoads (suc m) row.asked after) (sym same)
          (by_value (slice_get rows k) refl (sym (get_changed f rows k) ∙ ap (λ (m : ℕ). slice_get (change f rows k) m) (sym same) ∙ there))
      by_place (no other) =
          let apart : suc k ≢ suc i = λ e. other (omega (arith, e)) in
          others (suc i) row.asked apart (loads i row (sym (get_change f rows k i other) ∙ there))

  pub told_loads : (effects : List Effect) (rows : List ClientRow) (k : ℕ) → AreAllLoads rows before → OthersStay (suc k)
      → ((row : ClientRow) → slice_get rows k ≡ Some row → AreLoads (suc k) (felt_all effects row).asked after)
      → AreAllLoads (delivered cell (tell (suc k) effects) rows) after
  told_loads effects rows k loads others here =
      subst (λ (l : List ClientRow). AreAllLoads l after) (sym (told_one effects k rows)) (changed_loads (felt_all effects) rows k loads others here)

-- ---- effects that change nothing of what is asked

abbrev pub IsQuiet : Effect → Type 0
IsQuiet Closes = ⊥
IsQuiet (Asks kind domain) = ⊥
IsQuiet (Settles number) = ⊥
IsQuiet (Sends output) = Unit {0}
IsQuiet (Opens values) = Unit {0}
IsQuiet (Waits request) = Unit {0}
IsQuiet (Answers invoke) = Unit {0}
IsQuiet Drains = Unit {0}

abbrev pub AreQuiet : List (ℕ × Effect) → Type 0
AreQuiet [] = Unit {0}
AreQuiet (t ∷ told) = IsQuiet t.1 × AreQuiet told

pub both_quiet : (xs ys : List (ℕ × Effect)) → AreQuiet xs → AreQuiet ys → AreQuiet (xs ++ ys)
both_quiet [] ys a b = b
both_quiet (x ∷ xs) ys a b = (a.0, both_quiet xs ys a.1 b)

waits_asked : (may : Result Unit NotAdmitted) (request : Waiting) (row : ClientRow) → (waiting_if may request row).asked ≡ row.asked
waits_asked (Ok admitted) request row = refl
waits_asked (Err refusal) request row = refl

quiet_asked : (effect : Effect) (row : ClientRow) → IsQuiet effect → (felt effect row).asked ≡ row.asked
quiet_asked (Sends output) row quiet = refl
quiet_asked (Opens values) row quiet = refl
quiet_asked (Waits request) row quiet = waits_asked (admission request.invoke row) request row
quiet_asked (Answers invoke) row quiet = refl
quiet_asked Drains row quiet = refl
quiet_asked Closes row quiet = absurd quiet
quiet_asked (Asks kind domain) row quiet = absurd quiet
quiet_asked (Settles number) row quiet = absurd quiet

reached_quiet : (client : ℕ) (effect : Effect) (rows : List ClientRow) (domains : Rows) → IsQuiet effect → AreAllLoads rows domains
    → AreAllLoads (reached cell client effect rows) domains
reached_quiet zero effect rows domains quiet loads = loads
reached_quiet (suc k) effect rows domains quiet loads =
    changed_loads domains domains (felt effect) rows k loads (λ other asked apart is. is)
    (λ row there. subst (λ (asked : List Unanswered). AreLoads (suc k) asked domains) (sym (quiet_asked effect row quiet)) (loads k row there))

quiet_loads : (told : List (ℕ × Effect)) (rows : List ClientRow) (domains : Rows) → AreQuiet told → AreAllLoads rows domains → AreAllLoads (delivered cell told rows) domains
quiet_loads [] rows domains quiet loads = loads
quiet_loads (t ∷ told) rows domains quiet loads =
    quiet_loads told (reached cell t.0 t.1 rows) domains quiet.1 (reached_quiet t.0 t.1 rows domains quiet.0 loads)

pub quiet_sane : (t : DomainTables) (told : List (ℕ × Effect)) (rows : List ClientRow) → AreQuiet told → AreSane t rows → AreSane t (delivered cell told rows)
quiet_sane t told rows quiet sane = record { names = sane.names; loads = quiet_loads told rows t.domains quiet sane.loads; uploads = sane.uploads }

pub quiet_right : {programs : ProgramRows} → (t : DomainTables) (told : List (ℕ × Effect)) (rows : List ClientRow) → AreQuiet told → AreRight t programs rows → AreRight t programs (delivered cell told rows)
quiet_right t told rows quiet right = with_used t (delivered cell told rows) (quiet_sane t told rows quiet (sane_in t rows right)) right.used

-- ---- what is done to domains

module _ (t : DomainTables) (rows : List ClientRow) (sane : AreSane t rows) where
  lost_uploads : (client : ℕ) → AreOf (domains.lost client t).uploads (domains.lost client t).domains
  lost_uploads client = loss_keeps client t.domains (domains.lost client t).uploads (lose_keeps client t.domains t.uploads sane.uploads)

  -- a client is lost, and its association is closed
  pub closed_sane : (effects : List Effect) (k : ℕ) → ((row : ClientRow) → (felt_all effects row).asked ≡ [])
      → AreSane (domains.lost (suc k) t) (delivered cell (tell (suc k) effects) rows)
  closed_sane effects k none = record {
    names = lost_names (suc k) t.domains sane.names;
    loads = told_loads t.domains (without_loads (suc k) t.domains) effects rows k sane.loads
        (λ other asked apart is. lost_elsewhere (suc k) other asked t.domains apart sane.names is)
        (λ row there. subst (λ (asked : List Unanswered). AreLoads (suc k) asked (without_loads (suc k) t.domains)) (sym (none row)) (lost (suc k) t.domains sane.names));
    uploads = lost_uploads (suc k);
  }

  -- there is no client 0
  pub nobody_sane : AreSane (domains.lost 0 t) rows
  nobody_sane =
      record {
        names = lost_names 0 t.domains sane.names;
        loads = λ i row there. let apart : 0 ≢ suc i = λ e. absurd (omega (arith, e)) in
            lost_elsewhere 0 (suc i) row.asked t.domains apart sane.names (sane.loads i row there);
        uploads = lost_uploads 0;
      }

  -- a load begins
  pub begun_sane : (k : ℕ) (left : Bool) (x : InitiateDownloadSequence) → initiate_cause left x t.domains ≡ None
      → AreSane (record t { domains = initiate_after (suc k) x t.domains }) (delivered cell ((suc k, Asks asks.Segment x.domain) ∷ []) rows)
  begun_sane k left x none = record {
    names = begun_names (suc k) left x t.domains none sane.names;
    loads = changed_loads t.domains (initiate_after (suc k) x t.domains) (felt (Asks asks.Segment x.domain)) rows k sane.loads
        (λ other asked apart is. begins_elsewhere (suc k) left x t.domains none other asked apart is)
        (λ row there. begins_asked (suc k) left x t.domains none row.next_invoke row.asked (sane.loads k row there));
    uploads = begin_keeps (suc k) x t.domains t.uploads sane.uploads;
  }

  -- ---- a client answers

  asked_felt : (row : ClientRow) (number : ℕ) (next : Option Asked) (domain : List ℕ)
      → (felt_all (reply_told number next domain) row).asked ≡ asked_after (unsettled number row.asked) row.next_invoke next domain
  asked_felt row number None domain = refl
  asked_felt row number (Some kind) domain = refl

  as_told : (client number : ℕ) (next : Option Asked) (domain : List ℕ) → (client, Settles number) ∷ asks_next client next domain ≡ tell client (reply_told number next domain)
  as_told client number None domain = refl
  as_told client number (Some kind) domain = refl

  module _ (k : ℕ) (row : ClientRow) (there : slice_get rows k ≡ Some row) (apart : AreApart row.asked) (number : ℕ) (came : Came) (is : IsOfLoad row.asked number came) where
    abbrev replied_domains : Rows
    replied_domains = reply_after (reply_of came is.of) t.domains

    abbrev next_asked : Option Asked
    next_asked = asked_next (reply_of came is.of) t.domains

    pub it_loads : answers_load (suc k) (reply_of came is.of) t.domains ≡ true
    it_loads = loads_it t (suc k) number row.asked came is (sane.loads k row there)

    its_loads : AreLoads (suc k) (felt_all (reply_told number next_asked is.of.1) row).asked replied_domains
    its_loads =
        let name = domain_answered came is.of in
        let law = replied_asked (suc k) (reply_of came is.of) t.domains sane.names it_loads number row.next_invoke row.asked is.of apart is.asked is.kind (sym name) (sane.loads k row there) in
        subst (λ (asked : List Unanswered). AreLoads (suc k) asked replied_domains)
        (ap (λ (d : List ℕ). asked_after (unsettled number row.asked) row.next_invoke next_asked d) name ∙ sym (asked_felt row number next_asked is.of.1)) law

    replied_loads : AreAllLoads (delivered cell (tell (suc k) (reply_told number next_asked is.of.1)) rows) replied_domains
    replied_loads =
        told_loads t.domains replied_domains (reply_told number next_asked is.of.1) rows k sane.loads
        (λ other asked ne was. replied_elsewhere (suc k) (reply_of came is.of) t.domains sane.names it_loads other asked ne was)
        (λ r at. let same : row ≡ r = cc (there, at) in
        subst (λ (x : ClientRow). AreLoads (suc k) (felt_all (reply_told number next_asked is.of.1) x).asked replied_domains) same its_loads)

    pub replied_sane : AreSane (record t { domains = replied_domains }) (delivered cell ((suc k, Settles number) ∷ asks_next (suc k) next_asked is.of.1) rows)
    replied_sane = record {
      names = replied_names (reply_of came is.of) t.domains sane.names;
      loads = subst (λ (told : List (ℕ × Effect)). AreAllLoads (delivered cell told rows) replied_domains) (sym (as_told (suc k) number next_asked is.of.1)) replied_loads;
      uploads = reply_keeps (suc k) (reply_of came is.of) t.domains t.uploads it_loads sane.uploads;
    }

-- and the program invocations keep their domains
module _ {programs : ProgramRows} (t : DomainTables) (rows : List ClientRow) (right : AreRight t programs rows) where
  pub closed_right : (effects : List Effect) (k : ℕ) → ((row : ClientRow) → (felt_all effects row).asked ≡ [])
      → AreRight (domains.lost (suc k) t) programs (delivered cell (tell (suc k) effects) rows)
  closed_right effects k none =
      with_used (domains.lost (suc k) t) (delivered cell (tell (suc k) effects) rows) (closed_sane t rows (sane_in t rows right) effects k none)
      (lost_keeps t.domains programs right.used right.names (suc k))

  pub nobody_lost : AreRight (domains.lost 0 t) programs rows
  nobody_lost = with_used (domains.lost 0 t) rows (nobody_sane t rows (sane_in t rows right)) (lost_keeps t.domains programs right.used right.names 0)

  pub begun_right : (k : ℕ) (left : Bool) (x : InitiateDownloadSequence) → initiate_cause left x t.domains ≡ None
      → AreRight (record t { domains = initiate_after (suc k) x t.domains }) programs (delivered cell ((suc k, Asks asks.Segment x.domain) ∷ []) rows)
  begun_right k left x none =
      with_used (record t { domains = initiate_after (suc k) x t.domains }) (delivered cell ((suc k, Asks asks.Segment x.domain) ∷ []) rows)
      (begun_sane t rows (sane_in t rows right) k left x none) (begins_keeps t.domains programs right.used (suc k) left x none)

  -- a domain is deleted that isn't LOADING
  not_loading : (name : List ℕ) (scoped : Bool) → delete_cause name (uploads_of name t.uploads) scoped t.domains ≡ None → is_there is_loading name t.domains ≡ false
  not_loading name scoped none =
      let last : List (Bool × ServiceError) = (is_there (is_held (uploads_of name t.uploads) scoped) name t.domains, object_constraint_conflict) ∷ [] in
      let first = none_holds _ object_non_existent ((is_there is_loading name t.domains, object_state_conflict) ∷ last) none in
      (none_holds (is_there is_loading name t.domains) object_state_conflict last first.1).0

  pub deleted_right : (name : List ℕ) (scoped : Bool) → delete_cause name (uploads_of name t.uploads) scoped t.domains ≡ None
      → AreRight (record t { domains = without name t.domains }) programs rows
  deleted_right name scoped none = record {
    names = deleted_names name t.domains right.names;
    loads = λ i row there. deleted (suc i) row.asked t.domains name right.names (not_loading name scoped none) (right.loads i row there);
    uploads = delete_keeps name scoped t.domains t.uploads none right.uploads;
    used = without_keeps t.domains programs right.used right.names name (uploads_of name t.uploads) scoped none;
  }

  -- a program invocation is made, and has its domains
  pub used_right : (x : CreateProgramInvocation) → create_cause x t.domains programs ≡ None
      → AreRight (record t { domains = after_used x.domains x.name t.domains }) (after_create x programs) rows
  used_right x none = record {
    names = used_names x.domains x.name t.domains right.names;
    loads = λ i row there. used_loads (suc i) x.name x.domains row.asked t.domains (right.loads i row there);
    uploads = used_keeps x.domains x.name t.domains t.uploads right.uploads;
    used = create_keeps t.domains programs right.used x none;
  }

  -- one is deleted, and leaves them
  pub unused_right : (name : List ℕ) (p : Invocation) → program.named name programs ≡ Some p
      → AreRight (record t { domains = after_unused p.domains name t.domains }) (after_delete name programs) rows
  unused_right name p found = record {
    names = unused_names p.domains name t.domains right.names;
    loads = λ i row there. unused_loads (suc i) name p.domains row.asked t.domains (right.loads i row there);
    uploads = unused_keeps p.domains name t.domains t.uploads right.uploads;
    used = delete_keeps_used t.domains programs right.used name p found;
  }

  -- invocations change, and name the same domains
  pub run_right : (after : ProgramRows) → AreUsed t.domains after → AreRight t after rows
  run_right after used = record { names = right.names; loads = right.loads; uploads = right.uploads; used = used }

  module _ (k : ℕ) (row : ClientRow) (there : slice_get rows k ≡ Some row) (apart : AreApart row.asked) (number : ℕ) (came : Came) (is : IsOfLoad row.asked number came) where
    abbrev after_reply : DomainTables
    after_reply = record t { domains = reply_after (reply_of came is.of) t.domains }

    pub replied_right : AreRight after_reply programs (delivered cell ((suc k, Settles number) ∷ asks_next (suc k) (asked_next (reply_of came is.of) t.domains) is.of.1) rows)
    replied_right =
        with_used after_reply (delivered cell ((suc k, Settles number) ∷ asks_next (suc k) (asked_next (reply_of came is.of) t.domains) is.of.1) rows)
        (replied_sane t rows (sane_in t rows right) k row there apart number came is)
        (reply_keeps_used t.domains programs right.used right.names (suc k) (reply_of came is.of) (it_loads t rows (sane_in t rows right) k row there apart number came is))
