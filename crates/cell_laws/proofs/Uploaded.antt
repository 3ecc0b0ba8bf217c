-- What the segments of an upload told is a front of its domain's octets.
use Rattle.std.proofs.Common.{◌≡◌, ◌⊎◌, inl, inr, ℕ, ℤ, ◌+◌, ◌≤◌, ◌==◌, ◌&&◌, Bool, true, false, not, cond, List, [], ◌∷◌, ◌++◌, filter, find, fold, length, map, take, Option, None, Some, is_none, is_some, if◌then◌else◌, refl, sym, ◌∙◌, ap, subst, arith}
use Rattle.std.specs.Prelude.{IsSomeAnd}
use Rattle.std.specs.List.{concat}
use Rattle.std.specs.Map.{lookup}
use Rattle.std.specs.Option.{option_and_then, option_map, option_map_or}
use Rattle.std.specs.Ordering.{int_eq}
use Rattle.std.proofs.lemmas.Bool.Decides.{Decides-int_eq}
use Rattle.std.proofs.lemmas.List.{take_all}
use Rattle.mms_types.proofs.Conditions.{none_holds}
use Rattle.mms_types.specs.Errors.{object_non_existent, object_state_conflict}
use Rattle.mms_types.specs.declared.asked.Asked.{Asked}
use Rattle.mms_types.specs.declared.asked.Reply.{Reply}
use Rattle.mms_types.specs.declared.domain.InitiateDownloadSequence.{InitiateDownloadSequence}
use Rattle.mms_types.specs.declared.domain.Segment.{Segment}
use Rattle.mms_types.specs.declared.event.CellEvent.{CellEvent}
use Rattle.mms_types.specs.declared.event.CellEvent.TheVariants.{Heard, Lost, Tick, Ends, Drain}
use Rattle.mms_types.specs.declared.pdu.Answer.TheVariants as answer
use Rattle.mms_types.specs.declared.pdu.Request.{Request}
use Rattle.mms_types.specs.declared.pdu.Request.TheVariants as request
use Rattle.association.specs.Asked.{asked_of}
use Rattle.association.specs.Client.{ClientRow}
use Rattle.association.specs.declared.negotiation.Association.{Association}
use Rattle.association.specs.declared.negotiation.Association.TheVariants.{Idle, Open}
use Rattle.association.specs.declared.waiting.Waiting.{Waiting}
use Rattle.cell_config.specs.declared.config.Config.{Config}
use Rattle.cell_config.specs.Said.{IsConfig}
use Rattle.mms_time.specs.Services.{take_told}
use Rattle.mms_time.specs.declared.taking.TakeDone.{TakeDone}
use Rattle.mms_time.specs.declared.taking.TakeDone.TheVariants as taken
use Rattle.sem_ticks.specs.Granted.{relinquish_granted}
use Rattle.sem_ticks.specs.declared.granted.Granted.{Granted}
use Rattle.domain_load.specs.Domains.{Rows, name_eq, named, octets, without, without_loads}
use Rattle.domain_load.specs.declared.domain.Domain.{Domain}
use Rattle.domain_load.specs.Standing.{is_loading}
use Rattle.domain_upload.proofs.InOrder.{all_with_last, in_order}
use Rattle.domain_upload.proofs.Lengths.{length_joined}
use Rattle.domain_upload.proofs.Rows.{found, is_open}
use Rattle.domain_upload.proofs.Told.{piece_told}
use Rattle.domain_upload.specs.Pieces.{next_octets, next_piece}
use Rattle.domain_upload.specs.Uploads.{AreOf, IsOf, OpenUploads, after_initiate, after_lose, after_next, after_piece, after_segment, after_terminate, begun, is_upload, piece_of, segment_answer, upload_after, upload_of}
use Rattle.domain_upload.specs.declared.upload.Upload.{Upload}
use Rattle.program_inv.specs.Programs as program
use Rattle.program_inv.specs.declared.invocation.Invocation.{Invocation}
use Rattle.parted_state.specs.Served.{row_at}
use Rattle.cell_client.specs.Association.{Came, Verdict, Tells, Takes, Replies, Exhausts, Concludes, Cancels, Aborts, verdict}
use Rattle.cell_client.specs.Requests.{size_of}
use Rattle.serve_domains.specs.Domains.{replied_to}
use Rattle.serve_domains.specs.Tables.{DomainTables}
use Rattle.serve_domains.specs.Tables as domains
use Rattle.serve_programs.specs.Programs.{with_domains}
use Rattle.domain_load.specs.Used.{after_unused, after_used}
use Rattle.cell_services.specs.Requests.{among}
use Rattle.cell_services.specs.Services.{cause, effect, effect_of, reply_in, relinquish_outcome, take_outcome}
use Rattle.cell_services.specs.Serving.{domains_without, is_served, is_served_in, lost_in, meanwhile, resolved, tables_cancelled, tables_heard, tables_lost, waiting_of}
use Rattle.cell_services.specs.Tables.{Tables, own_domains}
use Rattle.step_sound.proofs.Sound.{start_sound, step_sound}
use Rattle.step_parts.specs.Partition.{cell}
use Rattle.step_parts.specs.State.{IsSound, State, start}
use Rattle.step_parts.specs.Step.{replay, step}
use Rattle.cell_laws.specs.Uploaded.{IsFront, Sending, asks_segment, event_told, heard_told, if_open, octets_told, sending_after, told_of}
use Rattle.cell_laws.proofs.Bound.{nat-same, nat-test}
use Rattle.cell_laws.proofs.SegmentsStay.{segments_stay}
use Rattle.cell_laws.proofs.ScopesKept.{none_refused}

-- ---- the row of an upload

both : (a b : Bool) → (a && b) ≡ true → (a ≡ true) × (b ≡ true)
both true true e = (refl, refl)
both true false e = absurd (cc e)
both false b e = absurd (cc e)

int-same : (a b : ℤ) → int_eq a b ≡ true → a ≡ b
int-same a b e = (Decides-int_eq a b).0 e

module _ (client : ℕ) (number : ℤ) where
  abbrev at : List Upload → Option Upload
  at rows = find (is_upload client number) rows

  -- one that is of this upload isn't of another
  other_upload : (c : ℕ) (n : ℤ) → (c == client && int_eq n number) ≡ false → (u : Upload) → is_upload client number u ≡ true → is_upload c n u ≡ false
  other_upload c n apart u is = by_test (is_upload c n u) refl
    where
      mine : (u.client == client ≡ true) × (int_eq u.number number ≡ true)
      mine = both (u.client == client) (int_eq u.number number) is

      by_test : (b : Bool) → is_upload c n u ≡ b → b ≡ false
      by_test false e = refl
      by_test true e =
          let its = both (u.client == c) (int_eq u.number n) e in
          let clients : c ≡ u.client = sym (nat-same u.client c its.0) in
          let numbers : n ≡ u.number = sym (int-same u.number n its.1) in
          absurd (cc (sym (ap (λ (x : ℕ). x == client && int_eq n number) clients ∙ ap (λ (x : ℤ). u.client == client && int_eq x number) numbers ∙ is) ∙ apart))

  find_kept : (p : Upload → Bool) → ((u : Upload) → is_upload client number u ≡ true → p u ≡ true) → (rows : List Upload) → at (filter p rows) ≡ at rows
  find_kept p passes [] = refl
  find_kept p passes (r ∷ rows) = by_test (is_upload client number r) refl (p r) refl (find_kept p passes rows)
    where
      by_test : (b : Bool) → is_upload client number r ≡ b → (k : Bool) → p r ≡ k → at (filter p rows) ≡ at rows → at (cond k (r ∷ filter p rows) (filter p rows)) ≡ cond b (Some r) (at rows)
      by_test true is true its later = ap (λ (b : Bool). cond b (Some r) (at (filter p rows))) is
      by_test true is false its later = absurd (cc (sym its ∙ passes r is))
      by_test false is true its later = ap (λ (b : Bool). cond b (Some r) (at (filter p rows))) is ∙ later
      by_test false is false its later = later

  find_gone : (p : Upload → Bool) → ((u : Upload) → is_upload client number u ≡ true → p u ≡ false) → (rows : List Upload) → at (filter p rows) ≡ None
  find_gone p fails [] = refl
  find_gone p fails (r ∷ rows) = by_test (is_upload client number r) refl (p r) refl (find_gone p fails rows)
    where
      by_test : (b : Bool) → is_upload client number r ≡ b → (k : Bool) → p r ≡ k → at (filter p rows) ≡ None → at (cond k (r ∷ filter p rows) (filter p rows)) ≡ None
      by_test true is true its later = absurd (cc (sym its ∙ fails r is))
      by_test true is false its later = later
      by_test false is true its later = ap (λ (b : Bool). cond b (Some r) (at (filter p rows))) is ∙ later
      by_test false is false its later = later

  piece_same : (size : ℕ) (ds : Rows) (u : Upload) → is_upload client number (after_next size ds u) ≡ is_upload client number u
  piece_same size ds u = by_piece (piece_of size ds u)
    where
      by_piece : (o : Option Segment) → is_upload client number (option_map_or (after_piece u) o u) ≡ is_upload client number u
      by_piece None = refl
      by_piece (Some p) = refl

  find_aside : (c : ℕ) (n : ℤ) (size : ℕ) (ds : Rows) → (c == client && int_eq n number) ≡ false → (rows : List Upload) → at (map (upload_after c n size ds) rows) ≡ at rows
  find_aside c n size ds apart [] = refl
  find_aside c n size ds apart (r ∷ rows) = by_test (is_upload client number r) refl (is_upload c n r) refl (find_aside c n size ds apart rows)
    where
      by_test : (b : Bool) → is_upload client number r ≡ b → (k : Bool) → is_upload c n r ≡ k → at (map (upload_after c n size ds) rows) ≡ at rows
          → at ((if k then after_next size ds r else r) ∷ map (upload_after c n size ds) rows) ≡ cond b (Some r) (at rows)
      by_test true is true its later = absurd (cc (sym its ∙ other_upload c n apart r is))
      by_test true is false its later = ap (λ (b : Bool). cond b (Some r) (at (map (upload_after c n size ds) rows))) is
      by_test false is true its later = ap (λ (b : Bool). cond b (Some (after_next size ds r)) (at (map (upload_after c n size ds) rows))) (piece_same size ds r ∙ is) ∙ later
      by_test false is false its later = ap (λ (b : Bool). cond b (Some r) (at (map (upload_after c n size ds) rows))) is ∙ later

  -- one more begins
  find_more : (rows : List Upload) (new u : Upload) → at (rows ++ new ∷ []) ≡ Some u → (at rows ≡ Some u) ⊎ ((at rows ≡ None) × (new ≡ u))
  find_more [] new u e = by_test (is_upload client number new) e
    where
      by_test : (b : Bool) → cond b (Some new) None ≡ Some u → (at [] ≡ Some u) ⊎ ((at [] ≡ None) × (new ≡ u))
      by_test true h = inr (refl, cc h)
      by_test false h = absurd (cc h)
  find_more (r ∷ rows) new u e = by_test (is_upload client number r) e (find_more rows new u)
    where
      by_test : (b : Bool) → cond b (Some r) (at (rows ++ new ∷ [])) ≡ Some u → (at (rows ++ new ∷ []) ≡ Some u → (at rows ≡ Some u) ⊎ ((at rows ≡ None) × (new ≡ u)))
          → (cond b (Some r) (at rows) ≡ Some u) ⊎ ((cond b (Some r) (at rows) ≡ None) × (new ≡ u))
      by_test true h later = inl h
      by_test false h later = later h

  -- ---- what an event makes of it

  abbrev Begins : List Upload → Upload → List ℕ → Type 0
  Begins rows u piece = (at rows ≡ None) × (piece ≡ []) × (u.sent ≡ 0) × (u.ended ≡ false)

  pub record Sent (rows : List Upload) (ds : Rows) (u : Upload) (piece : List ℕ) : Type 0 where
    pub was : Upload
    pub open_then : at rows ≡ Some was
    pub size : ℕ
    pub domain : Domain
    pub there : named was.domain ds ≡ Some domain
    pub is : after_piece was (next_piece size was.sent domain) ≡ u
    pub told : piece ≡ next_octets size was.sent domain

  -- it begins, or stays as it is, or its next segment is told
  abbrev Next : DomainTables → Upload → List ℕ → Type 0
  Next t u piece = Begins t.uploads.rows u piece ⊎ (((at t.uploads.rows ≡ Some u) × (piece ≡ [])) ⊎ Sent t.uploads.rows t.domains u piece)

  there_is : (o : Option Domain) (P : Domain → Type 0) → IsSomeAnd o P → (d : Domain) × (o ≡ Some d)
  there_is None P h = absurd h
  there_is (Some d) P h = (d, refl)

  module _ (t : Tables) (row : ClientRow) (of : AreOf t.domains.uploads t.domains.domains) where
    abbrev rows : List Upload
    rows = t.domains.uploads.rows

    -- the next segment of this upload
    sent_next : (size : ℕ) (u : Upload) → is_some (at rows) ≡ true → at (map (upload_after client number size t.domains.domains) rows) ≡ Some u
        → Next t.domains u (octets_told (option_map answer.UploadSegment (segment_answer client number size t.domains.domains t.domains.uploads)))
    sent_next size u some after = by_was (at rows) refl some
      where
        by_was : (o : Option Upload) → at rows ≡ o → is_some o ≡ true
            → Next t.domains u (octets_told (option_map answer.UploadSegment (segment_answer client number size t.domains.domains t.domains.uploads)))
        by_was None e h = absurd (cc h)
        by_was (Some was) e h =
            let its : IsOf t.domains.domains was = found (IsOf t.domains.domains) (is_upload client number) rows was of.each e in
            let d = there_is (named was.domain t.domains.domains) (λ d. (is_loading d ≡ false) × (was.sent ≤ octets d)) its in
            let p : Segment = next_piece size was.sent d.0 in
            let told : segment_answer client number size t.domains.domains t.domains.uploads ≡ Some p =
            ap (option_and_then (piece_of size t.domains.domains)) e ∙ ap (option_map (next_piece size was.sent)) d.1 in
            let then_is = piece_told client number size t.domains.domains t.domains.uploads was p e told in
            inr (inr (record {
              was = was;
              open_then = e;
              size = size;
              domain = d.0;
              there = d.1;
              is = cc (sym then_is ∙ after);
              told = ap (λ (o : Option Segment). octets_told (option_map answer.UploadSegment o)) told;
            }))

    asked_next : (invoke : ℕ) (asked : Request) (u : Upload) → cause t row asked ≡ None → at (effect t row invoke asked).tables.domains.uploads.rows ≡ Some u
        → Next t.domains u (if asks_segment client number row asked then octets_told (effect t row invoke asked).answer else [])
    asked_next invoke (request.InitiateUploadSequence name) u none after = by_found (find_more rows (begun row.client name t.domains.uploads) u after)
      where
        by_found : (at rows ≡ Some u) ⊎ ((at rows ≡ None) × (begun row.client name t.domains.uploads ≡ u)) → Next t.domains u []
        by_found (inl stays) = inr (inl (stays, refl))
        by_found (inr (absent, new)) = inl (absent, refl, ap (λ (x : Upload). x.sent) (sym new), ap (λ (x : Upload). x.ended) (sym new))
    asked_next invoke (request.UploadSegment x) u none after = by_test (row.client == client && int_eq x number) refl
      where
        size : ℕ
        size = size_of row.association

        told : ℕ → ℤ → List ℕ
        told c n = octets_told (option_map answer.UploadSegment (segment_answer c n size t.domains.domains t.domains.uploads))

        by_test : (b : Bool) → (row.client == client && int_eq x number) ≡ b → Next t.domains u (if b then told row.client x else [])
        by_test false e = inr (inl (sym (find_aside row.client x size t.domains.domains e rows) ∙ after, refl))
        by_test true e =
            let tests = both (row.client == client) (int_eq x number) e in
            let clients : row.client ≡ client = nat-same row.client client tests.0 in
            let numbers : x ≡ number = int-same x number tests.1 in
            let open_one : is_some (at rows) ≡ true =
            subst (λ (n : ℤ). is_some (find (is_upload client n) rows) ≡ true) numbers
            (subst (λ (c : ℕ). is_some (find (is_upload c x) rows) ≡ true) clients (is_open row.client x t.domains.uploads none)) in
            let then_at : at (map (upload_after client number size t.domains.domains) rows) ≡ Some u =
            subst (λ (n : ℤ). at (map (upload_after client n size t.domains.domains) rows) ≡ Some u) numbers
            (subst (λ (c : ℕ). at (map (upload_after c x size t.domains.domains) rows) ≡ Some u) clients after) in
            subst (λ (n : ℤ). Next t.domains u (told row.client n)) (sym numbers)
            (subst (λ (c : ℕ). Next t.domains u (told c number)) (sym clients) (sent_next size u open_one then_at))
    asked_next invoke (request.TerminateUploadSequence x) u none after = by_test (row.client == client && int_eq x number) refl
      where
        gone : Upload → Bool
        gone r = not (is_upload row.client x r)

        by_test : (b : Bool) → (row.client == client && int_eq x number) ≡ b → Next t.domains u []
        by_test false e = inr (inl (sym (find_kept gone (λ r is. ap not (other_upload row.client x e r is)) rows) ∙ after, refl))
        by_test true e =
            let tests = both (row.client == client) (int_eq x number) e in
            let clients : client ≡ row.client = sym (nat-same row.client client tests.0) in
            let numbers : number ≡ x = sym (int-same x number tests.1) in
            let fails : (r : Upload) → is_upload client number r ≡ true → gone r ≡ false =
            λ r is. ap not (sym (ap (λ (c : ℕ). is_upload c number r) clients ∙ ap (λ (n : ℤ). is_upload row.client n r) numbers) ∙ is) in
            absurd (cc (sym (find_gone gone fails rows) ∙ after))
    asked_next invoke (request.DeleteProgramInvocation name) u none after = by_found (program.named name t.programs) after
      where
        by_found : (o : Option Invocation) → at (option_map_or (λ p. with_domains (after_unused p.domains name t.domains.domains) t.domains) o t.domains).uploads.rows ≡ Some u → Next t.domains u []
        by_found None e = inr (inl (e, refl))
        by_found (Some p) e = inr (inl (e, refl))
    asked_next invoke (request.TakeControl x) u none after = by_done (take_told row.client x t.semaphores) after
      where
        by_done : (o : Option TakeDone) → at (take_outcome t row.client invoke x o).tables.domains.uploads.rows ≡ Some u → Next t.domains u []
        by_done None e = inr (inl (e, refl))
        by_done (Some (taken.Answered told)) e = inr (inl (e, refl))
        by_done (Some (taken.Waits waits)) e = inr (inl (e, refl))
    asked_next invoke (request.RelinquishControl x) u none after = by_grant (relinquish_granted row.client x t.semaphores) after
      where
        by_grant : (o : Option (Option Granted)) → at (relinquish_outcome t row.client x o).tables.domains.uploads.rows ≡ Some u → Next t.domains u []
        by_grant None e = inr (inl (e, refl))
        by_grant (Some grant) e = inr (inl (e, refl))
    asked_next invoke asked u none after = inr (inl (after, refl))

    lost_next : (c : ℕ) (rs : List Upload) (u : Upload) → at (filter (λ r. not (r.client == c)) rs) ≡ Some u → at rs ≡ Some u
    lost_next c rs u after = by_test (c == client) refl
      where
        stays : Upload → Bool
        stays r = not (r.client == c)

        by_test : (b : Bool) → (c == client) ≡ b → at rs ≡ Some u
        by_test false e = sym (find_kept stays (λ r is. ap not (apart r is)) rs) ∙ after
          where
            apart : (r : Upload) → is_upload client number r ≡ true → (r.client == c) ≡ false
            apart r is = by_same (r.client == c) refl
              where
                by_same : (k : Bool) → (r.client == c) ≡ k → k ≡ false
                by_same false h = refl
                by_same true h =
                    let mine = both (r.client == client) (int_eq r.number number) is in
                    absurd (cc (sym (ap (λ (y : ℕ). y == client) (sym (nat-same r.client c h)) ∙ mine.0) ∙ e))
        by_test true e =
            let same : c ≡ client = nat-same c client e in
            absurd (cc (sym (find_gone stays (λ r is. ap not (ap (λ (y : ℕ). r.client == y) same ∙ (both (r.client == client) (int_eq r.number number) is).0)) rs) ∙ after))

    heard_next : (v : Verdict) (u : Upload) → at (tables_heard t row v).domains.uploads.rows ≡ Some u → Next t.domains u (heard_told client number t row v)
    heard_next (Takes invoke asked) u after = by_test (is_served t row invoke asked) refl after
      where
        by_asks : (a : Bool) → Next t.domains u (if a then octets_told (effect t row invoke asked).answer else [])
            → Next t.domains u (if a && true then octets_told (effect t row invoke asked).answer else [])
        by_asks true h = h
        by_asks false h = h

        by_none : (a : Bool) → Next t.domains u [] → Next t.domains u (if a && false then octets_told (effect t row invoke asked).answer else [])
        by_none true h = h
        by_none false h = h

        By : Bool → Type 0
        By b = Next t.domains u (if asks_segment client number row asked && b then octets_told (effect t row invoke asked).answer else [])

        by_test : (b : Bool) → is_served t row invoke asked ≡ b → at (if b then (effect t row invoke asked).tables else t).domains.uploads.rows ≡ Some u → By b
        by_test true e h =
            by_asks (asks_segment client number row asked)
            (asked_next invoke asked u (none_refused (size_of row.association) invoke (cause t row asked) (effect t row invoke asked).answer e) h)
        by_test false e h = by_none (asks_segment client number row asked) (inr (inl (h, refl)))
    heard_next (Tells effects) u after = inr (inl (after, refl))
    heard_next (Replies n came) u after = by_test (is_served_in t row n (reply_in n came)) after
      where
        by_of : (o : Option (Asked × List ℕ)) → at (among own_domains t (replied_to row.client n came o t.domains)).tables.domains.uploads.rows ≡ Some u → Next t.domains u []
        by_of None e = inr (inl (e, refl))
        by_of (Some of) e = inr (inl (e, refl))

        by_test : (b : Bool) → at (if b then (effect_of t row n (reply_in n came)).tables else t).domains.uploads.rows ≡ Some u → Next t.domains u []
        by_test true e = by_of (asked_of n row.asked) e
        by_test false e = inr (inl (e, refl))
    heard_next (Exhausts invoke) u after = inr (inl (lost_next row.client rows u after, refl))
    heard_next Concludes u after = inr (inl (lost_next row.client rows u after, refl))
    heard_next (Cancels invoke) u after = by_waiting (waiting_of invoke row.waiting) after
      where
        by_waiting : (o : Option Waiting) → at (tables_cancelled o t).domains.uploads.rows ≡ Some u → Next t.domains u []
        by_waiting None e = inr (inl (e, refl))
        by_waiting (Some waits) e = inr (inl (e, refl))
    heard_next Aborts u after = inr (inl (lost_next row.client rows u after, refl))

    left_next : (a : Association) (u : Upload) → at (tables_lost a row.client t).domains.uploads.rows ≡ Some u → Next t.domains u []
    left_next Idle u after = inr (inl (after, refl))
    left_next (Open values) u after = inr (inl (lost_next row.client rows u after, refl))

    all_lost : (clients : List ℕ) (d : DomainTables) (u : Upload) → at (domains_without clients d).uploads.rows ≡ Some u → at d.uploads.rows ≡ Some u
    all_lost [] d u after = after
    all_lost (c ∷ clients) d u after = lost_next c d.uploads.rows u (all_lost clients (domains.lost c d) u after)

  event_next : (count : ℕ) (s : State) (event : CellEvent) (u : Upload) → IsSound count s → at (step s event).domains.uploads.rows ≡ Some u
      → Next s.domains u (event_told client number s event)
  event_next count s (Heard from octets) u sound after =
      let row : ClientRow = row_at cell from s.clients in
      heard_next (cell.tables_of s) row sound.uploads (resolved (cell.tables_of s) row (verdict row octets)) u after
  event_next count s (Lost from) u sound after =
      left_next (cell.tables_of s) (row_at cell from s.clients) sound.uploads (row_at cell from s.clients).association u after
  event_next count s (Tick ms) u sound after =
      inr (inl (all_lost (cell.tables_of s) (row_at cell 0 s.clients) sound.uploads (lost_in (meanwhile ms (cell.tables_of s)).happened) s.domains u after, refl))
  event_next count s (Ends name) u sound after = inr (inl (after, refl))
  event_next count s (Drain from) u sound after = inr (inl (after, refl))

  -- ---- what was told

  append-nil : {A : Type 0} (xs : List A) → xs ++ [] ≡ xs
  append-nil [] = refl
  append-nil (x ∷ xs) = ap (λ l. x ∷ l) (append-nil xs)

  there_so : (o : Option Domain) (sent : ℕ) → IsSomeAnd o (λ d. (is_loading d ≡ false) × (sent ≤ octets d)) → (d : Domain) × (o ≡ Some d) × (is_loading d ≡ false) × (sent ≤ octets d)
  there_so None sent h = absurd h
  there_so (Some d) sent h = (d, refl, h.0, h.1)

  pub record Fronts (s : State) (told : List ℕ) : Type 0 where
    pub none : at s.domains.uploads.rows ≡ None → told ≡ []
    pub front : (u : Upload) → at s.domains.uploads.rows ≡ Some u → IsFront told u s

  module _ (count : ℕ) (s : State) (event : CellEvent) (sound : IsSound count s) (told : List ℕ) (were : Fronts s told) where
    after_sound : IsSound (count + 1) (step s event)
    after_sound = step_sound count s event sound

    abbrev piece : List ℕ
    piece = event_told client number s event

    next_front : (u : Upload) → at (step s event).domains.uploads.rows ≡ Some u → IsFront (told ++ piece) u (step s event)
    next_front u after = by_next (event_next count s event u sound after)
      where
        now : (d : Domain) × (named u.domain (step s event).domains.domains ≡ Some d) × (is_loading d ≡ false) × (u.sent ≤ octets d)
        now = there_so (named u.domain (step s event).domains.domains) u.sent
            (found (IsOf (step s event).domains.domains) (is_upload client number) (step s event).domains.uploads.rows u after_sound.uploads.each after)

        -- the domain has the segments that it had
        same_as : (d : Domain) → named u.domain s.domains.domains ≡ Some d → is_loading d ≡ false → now.0.segments ≡ d.segments
        same_as d at_then stands = segments_stay count s event sound u.domain d now.0 at_then stands now.1

        by_next : Next s.domains u piece → IsFront (told ++ piece) u (step s event)
        by_next (inl (absent, nothing, zero_sent, going)) = record {
          domain = now.0;
          there = now.1;
          front =
              ap (λ (l : List ℕ). l ++ piece) (were.none absent) ∙ nothing ∙ ap (λ (n : ℕ). take n (concat now.0.segments)) (sym zero_sent);
          whole = λ ended. absurd (cc (sym going ∙ ended));
        }
        by_next (inr (inl (open_then, nothing))) =
            let was = were.front u open_then in
            let its = there_so (named u.domain s.domains.domains) u.sent (found (IsOf s.domains.domains) (is_upload client number) s.domains.uploads.rows u sound.uploads.each open_then) in
            let one : its.0 ≡ was.domain = cc (sym its.1 ∙ was.there) in
            let stood : is_loading was.domain ≡ false = subst (λ (d : Domain). is_loading d ≡ false) one its.2 in
            let same : was.domain.segments ≡ now.0.segments = sym (same_as was.domain was.there stood) in
            let all : told ++ piece ≡ told = ap (λ (l : List ℕ). told ++ l) nothing ∙ append-nil told in
            record {
              domain = now.0;
              there = now.1;
              front = all ∙ was.front ∙ ap (λ (l : List (List ℕ)). take u.sent (concat l)) same;
              whole = λ ended. all ∙ was.whole ended ∙ ap concat same;
            }
        by_next (inr (inr sent)) =
            let old : Upload = sent.was in
            let was = were.front old sent.open_then in
            let its = there_so (named old.domain s.domains.domains) old.sent (found (IsOf s.domains.domains) (is_upload client number) s.domains.uploads.rows old sound.uploads.each sent.open_then) in
            let one : its.0 ≡ sent.domain = cc (sym its.1 ∙ sent.there) in
            let other : was.domain ≡ sent.domain = cc (sym was.there ∙ sent.there) in
            let stood : is_loading sent.domain ≡ false = subst (λ (d : Domain). is_loading d ≡ false) one its.2 in
            let few : old.sent ≤ octets sent.domain = subst (λ (d : Domain). old.sent ≤ octets d) one its.3 in
            let its_name : u.domain ≡ old.domain = ap (λ (x : Upload). x.domain) (sym sent.is) in
            let then_at : named u.domain s.domains.domains ≡ Some sent.domain = ap (λ (n : List ℕ). named n s.domains.domains) its_name ∙ sent.there in
            let same : sent.domain.segments ≡ now.0.segments = sym (same_as sent.domain then_at stood) in
            let these : List ℕ = next_octets sent.size old.sent sent.domain in
            let counts : old.sent + length these ≡ u.sent = ap (λ (x : Upload). x.sent) sent.is in
            let joined : told ++ piece ≡ take (old.sent + length these) (concat sent.domain.segments) =
            ap (λ (l : List ℕ). told ++ l) sent.told ∙ ap (λ (l : List ℕ). l ++ these) (was.front ∙ ap (λ (d : Domain). take old.sent (concat d.segments)) other)
            ∙ in_order sent.size old.sent sent.domain in
            record {
              domain = now.0;
              there = now.1;
              front = joined ∙ ap (λ (n : ℕ). take n (concat sent.domain.segments)) counts ∙ ap (λ (l : List (List ℕ)). take u.sent (concat l)) same;
              whole = λ ended.
                  let last : (next_piece sent.size old.sent sent.domain).more ≡ false = is_last (next_piece sent.size old.sent sent.domain).more (ap (λ (x : Upload). x.ended) sent.is ∙ ended) in
                  let all : old.sent + length these ≡ octets sent.domain = all_with_last sent.size old.sent sent.domain few last in
                  let long : length (concat sent.domain.segments) ≡ octets sent.domain = length_joined sent.domain.segments in
                  joined ∙ take_all (old.sent + length these) (concat sent.domain.segments) (omega (arith, all, long)) ∙ ap concat same;
            }
          where
            is_last : (more : Bool) → not more ≡ true → more ≡ false
            is_last true e = absurd (cc e)
            is_last false e = refl

    next_fronts : Fronts (step s event) (if_open (upload_of client number (step s event).domains.uploads) (told ++ piece))
    next_fronts = record {
      none = λ e. ap (λ (o : Option Upload). if_open o (told ++ piece)) e;
      front = λ u e. subst (λ (l : List ℕ). IsFront l u (step s event)) (sym (ap (λ (o : Option Upload). if_open o (told ++ piece)) e)) (next_front u e);
    }

  fronts_along : (count : ℕ) (a : Sending) (history : List CellEvent) → IsSound count a.state → Fronts a.state a.told
      → Fronts (fold step a.state history) (fold (sending_after client number) a history).told
  fronts_along count a [] sound were = were
  fronts_along count a (event ∷ rest) sound were =
      fronts_along (count + 1) (sending_after client number a event) rest (step_sound count a.state event sound) (next_fronts count a.state event sound a.told were)

pub tells_a_front : (config : Config) (history : List CellEvent) (client : ℕ) (number : ℤ) (upload : Upload) → IsConfig config
    → upload_of client number (replay config history).domains.uploads ≡ Some upload → IsFront (told_of config history client number) upload (replay config history)
tells_a_front config history client number upload is there =
    (fronts_along client number 0 (record { state = start config; told = [] }) history (start_sound config is)
    (record { none = λ e. refl; front = λ u e. absurd (cc e) })).front upload there
