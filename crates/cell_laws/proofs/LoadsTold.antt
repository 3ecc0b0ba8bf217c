-- Each domain is what its client answered in the last load of its name, after any history.
use Rattle.std.specs.Prelude.{◌≡◌, ◌≢◌, ◌⊎◌, ℕ, suc, ◌+◌, ◌&&◌, Bool, true, false, not, count_by, is_some, Option, None, Some, List, [], ◌∷◌, ◌++◌, slice_get, refl}
use Rattle.std.specs.Option.{option_map_or}
use Rattle.std.proofs.Common.{inl, inr, ap, sym, ◌∙◌, subst, arith}
use Rattle.std.proofs.lemmas.Cmp.{nat_list_eq_equiv}
use Rattle.std.proofs.lemmas.List.Elements.{All-nil}
use Rattle.mms_types.specs.declared.asked.Asked.{Asked}
use Rattle.mms_types.specs.declared.asked.Asked.TheVariants as asks
use Rattle.mms_types.specs.declared.asked.Reply.{Reply}
use Rattle.mms_types.specs.declared.domain.InitiateDownloadSequence.{InitiateDownloadSequence}
use Rattle.mms_types.specs.declared.event.CellEvent.{CellEvent}
use Rattle.association.specs.Asked.{AreApart, unsettled}
use Rattle.association.specs.Client.{ClientRow}
use Rattle.association.specs.declared.unanswered.Unanswered.{Unanswered}
use Rattle.cell_config.specs.declared.config.Config.{Config}
use Rattle.cell_config.specs.Said.{IsConfig}
use Rattle.domain_load.specs.Domains.{Rows, is_there, name_eq, named, without, without_loads}
use Rattle.domain_load.specs.Loading.{answers_load, asked_next, changed, domain_of, initiate_after, initiate_cause, reply_after}
use Rattle.domain_load.specs.Standing.{is_live, is_loaded_by, is_loading}
use Rattle.domain_load.specs.declared.domain.Domain.{Domain}
use Rattle.domain_load.proofs.Outcomes.{begin_others, gone, gone_others, reply_others}
use Rattle.domain_load.proofs.Unopposed.{nothing_against}
use Rattle.parted_state.specs.Served.{delivered}
use Rattle.cell_client.specs.Association.{Came, Tells}
use Rattle.cell_client.specs.Effects.{Asks, Effect, Settles, felt_all, tell}
use Rattle.serve_domains.proofs.Answered.{domain_answered, loads_it}
use Rattle.serve_domains.proofs.LoadLaws.{asked_row, count_settled, deleted}
use Rattle.serve_domains.specs.Domains.{asks_next, reply_of, reply_told}
use Rattle.serve_domains.specs.Loads.{AreLoads, asks_load, is_of_load_kind}
use Rattle.serve_domains.specs.Tables.{DomainTables, no_domains}
use Rattle.step_sound.proofs.DomainNames.{HaveNames, deleted_names}
use Rattle.step_sound.proofs.Loading.{first_names}
use Rattle.step_sound.proofs.LoadsKept.{AreAllLoads, AreSane, begun_sane, closed_sane, nobody_sane, quiet_sane, replied_sane, told_loads}
use Rattle.step_sound.proofs.Sound.{start_sound}
use Rattle.step_parts.specs.Partition.{cell}
use Rattle.step_parts.specs.State.{start}
use Rattle.step_parts.specs.Step.{replay}
use Rattle.cell_laws.specs.Loads.{Answers, Begins, IsLoading, Load, LoadStep, WasLoaded, last_load, load_steps}
use Rattle.cell_laws.proofs.AskedFew.{as_told, first_asked}
use Rattle.cell_laws.proofs.LoadMeant.{IsBoth, IsReply, IsSpared, of_load}
use Rattle.cell_laws.proofs.LoadRows.{AllRows, ArePlain, plain_quiet, plain_rows, told_rows}
use Rattle.cell_laws.proofs.LoadTold.{EachAsked, IsTold, NextAsked, Outcome, brought_first, each_moved, each_of, each_push, each_rest, each_unsettled, last_begins, last_other, names_same, no_loader, once, settle, stays, there_before, told_first, turned}
use Rattle.cell_laws.proofs.LoadUsers.{IsOfUsers, before_users, changed_names, each_users, there_users, told_users}
use Rattle.cell_laws.proofs.LoadWalk.{IsKept, kept_along}

-- the domains, without uploads
abbrev bare : Rows → DomainTables
bare d = record { domains = d; uploads = no_domains.uploads }

-- what is unanswered by a client is asked of its loads as they stand
abbrev IsOfLoads : Rows → List LoadStep → ℕ → ClientRow → Type 0
IsOfLoads d log client row = EachAsked client d log row.asked

record IsTracked (log : List LoadStep) (d : Rows) (rows : List ClientRow) : Type 0 where
  sane : AreSane (bare d) rows
  each : (name : List ℕ) (domain : Domain) → named name d ≡ Some domain → IsTold name domain.loader domain (last_load name log)
  asked : AllRows (IsOfLoads d log) rows

sane_of : (d : Rows) (rows : List ClientRow) → HaveNames d → AreAllLoads rows d → AreSane (bare d) rows
sane_of d rows names loads = record { names = names; loads = loads; uploads = record { each = λ k x low. absurd (omega (arith, low)) } }

-- ---- clients are told something

tracked_plain : (log : List LoadStep) (d : Rows) (told : List (ℕ × Effect)) (rows : List ClientRow) → ArePlain told → IsTracked log d rows → IsTracked log d (delivered cell told rows)
tracked_plain log d told rows plain is = record {
  sane = quiet_sane (bare d) told rows (plain_quiet told plain) is.sane;
  each = is.each;
  asked = plain_rows (IsOfLoads d log) (λ client b a like q. subst (λ (us : List Unanswered). EachAsked client d log us) (sym like.asked) q) told rows plain is.asked;
}

each_spared : (d : Rows) (log : List LoadStep) (client : ℕ) (row : ClientRow) (effects : List Effect) → IsSpared row effects → EachAsked client d log row.asked
    → EachAsked client d log (felt_all effects row).asked
each_spared d log client row effects spared is = by_asked spared.asked
  where
    by_asked : (x : ((felt_all effects row).asked ≡ row.asked) ⊎ ((number : ℕ) × ((felt_all effects row).asked ≡ unsettled number row.asked)))
        → EachAsked client d log (felt_all effects row).asked
    by_asked (inl same) = subst (λ (us : List Unanswered). EachAsked client d log us) (sym same) is
    by_asked (inr settled) = subst (λ (us : List Unanswered). EachAsked client d log us) (sym settled.1) (each_unsettled client d log settled.0 row.asked is)

tracked_spared : (log : List LoadStep) (d : Rows) (rows : List ClientRow) (k : ℕ) (row : ClientRow) (effects : List Effect) → slice_get rows k ≡ Some row → AreApart row.asked
    → IsBoth row (Tells effects) → IsTracked log d rows → IsTracked log d (delivered cell (tell (suc k) effects) rows)
tracked_spared log d rows k row effects at apart both is = record {
  sane = sane_of d (delivered cell (tell (suc k) effects) rows) is.sane.names
      (told_loads d d effects rows k is.sane.loads (λ other asked ne q. q)
      (λ r here. let same : row ≡ r = cc (at, here) in
      subst (λ (x : ClientRow). AreLoads (suc k) (felt_all effects x).asked d) same (both.0 apart (suc k) d (is.sane.loads k row at))));
  each = is.each;
  asked = told_rows (IsOfLoads d log) (IsOfLoads d log) effects rows k is.asked (λ other r ne q. q)
      (λ r here. let same : row ≡ r = cc (at, here) in
      subst (λ (x : ClientRow). EachAsked (suc k) d log (felt_all effects x).asked) same (each_spared d log (suc k) row effects both.1 (is.asked k row at)));
}

-- ---- a client is lost

tracked_closed : (log : List LoadStep) (d : Rows) (rows : List ClientRow) (k : ℕ) (effects : List Effect) → ((row : ClientRow) → (felt_all effects row).asked ≡ [])
    → IsTracked log d rows → IsTracked log (without_loads (suc k) d) (delivered cell (tell (suc k) effects) rows)
tracked_closed log d rows k effects none is =
    let right = closed_sane (bare d) rows is.sane effects k none in
    record {
      sane = sane_of (without_loads (suc k) d) (delivered cell (tell (suc k) effects) rows) right.names right.loads;
      each = λ name domain at. is.each name domain (there_before (suc k) name d domain is.sane.names at);
      asked = told_rows (IsOfLoads d log) (IsOfLoads (without_loads (suc k) d) log) effects rows k is.asked
          (λ other r ne q. each_moved other d (without_loads (suc k) d) log log
          (λ name domain at loader. (stays (suc k) other name d domain ne is.sane.names at loader, refl)) r.asked q)
          (λ r here. subst (λ (us : List Unanswered). EachAsked (suc k) (without_loads (suc k) d) log us) (sym (none r)) tt);
    }

tracked_nobody : (log : List LoadStep) (d : Rows) (rows : List ClientRow) → IsTracked log d rows → IsTracked log (without_loads 0 d) rows
tracked_nobody log d rows is =
    let right = nobody_sane (bare d) rows is.sane in
    record {
      sane = sane_of (without_loads 0 d) rows right.names right.loads;
      each = λ name domain at. is.each name domain (there_before 0 name d domain is.sane.names at);
      asked = λ i row here. each_moved (suc i) d (without_loads 0 d) log log
          (λ name domain at loader. (stays 0 (suc i) name d domain (λ e. absurd (omega (arith, e))) is.sane.names at loader, refl)) row.asked (is.asked i row here);
    }

-- ---- a load begins

module _ (log : List LoadStep) (d : Rows) (k : ℕ) (left : Bool) (x : InitiateDownloadSequence) (none : initiate_cause left x d ≡ None) where
  abbrev began : Rows
  began = initiate_after (suc k) x d

  abbrev began_log : List LoadStep
  began_log = log ++ Begins (suc k) x ∷ []

  -- a domain that is there has another name
  pub other_name : (name : List ℕ) (domain : Domain) → named name d ≡ Some domain → name_eq name x.domain ≡ false
  other_name name domain at = by_test (name_eq name x.domain) refl
    where
      by_test : (b : Bool) → name_eq name x.domain ≡ b → b ≡ false
      by_test true e =
          absurd (cc (sym (nothing_against left x d none).0 ∙ ap (λ (n : List ℕ). named n d) (sym (names_same name x.domain e)) ∙ at))
      by_test false e = refl

  began_others : (name : List ℕ) (domain : Domain) → named name d ≡ Some domain → (named name began ≡ named name d) × (last_load name began_log ≡ last_load name log)
  began_others name domain at =
      let apart = other_name name domain at in
      (begin_others (suc k) x d name apart, last_begins (suc k) x log name apart)

  began_each : ((name : List ℕ) (domain : Domain) → named name d ≡ Some domain → IsTold name domain.loader domain (last_load name log))
      → (name : List ℕ) (domain : Domain) → named name began ≡ Some domain → IsTold name domain.loader domain (last_load name began_log)
  began_each each name domain at = by_test (name_eq name x.domain) refl
    where
      by_test : (b : Bool) → name_eq name x.domain ≡ b → IsTold name domain.loader domain (last_load name began_log)
      by_test true e =
          let same = names_same name x.domain e in
          subst (λ (n : List ℕ). IsTold n domain.loader domain (last_load n began_log)) (sym same)
          (told_first (suc k) left x d log none domain (ap (λ (n : List ℕ). named n began) (sym same) ∙ at))
      by_test false e =
          subst (λ (l : Option Load). IsTold name domain.loader domain l) (sym (last_begins (suc k) x log name e)) (each name domain (sym (begin_others (suc k) x d name e) ∙ at))

  tracked_begun : (rows : List ClientRow) → IsTracked log d rows → IsTracked began_log began (delivered cell (tell (suc k) (Asks asks.Segment x.domain ∷ [])) rows)
  tracked_begun rows is =
      let right = begun_sane (bare d) rows is.sane k left x none in
      record {
        sane = sane_of began (delivered cell (tell (suc k) (Asks asks.Segment x.domain ∷ [])) rows) right.names right.loads;
        each = began_each is.each;
        asked = told_rows (IsOfLoads d log) (IsOfLoads began began_log) (Asks asks.Segment x.domain ∷ []) rows k is.asked
            (λ other r ne q. each_moved other d began log began_log (λ name domain at loader. began_others name domain at) r.asked q)
            (λ r here. each_push (suc k) began began_log r.asked (record { invoke = r.next_invoke; kind = asks.Segment; domain = x.domain })
            (each_moved (suc k) d began log began_log (λ name domain at loader. began_others name domain at) r.asked (is.asked k r here))
            ([], brought_first (suc k) left x d log none, All-nil (λ (part : List ℕ × Bool). part.1 ≡ true)));
      }

-- ---- a domain is deleted

tracked_deleted : (log : List LoadStep) (d : Rows) (rows : List ClientRow) (name : List ℕ) → is_there is_loading name d ≡ false → IsTracked log d rows → IsTracked log (without name d) rows
tracked_deleted log d rows name stands is = record {
  sane = sane_of (without name d) rows (deleted_names name d is.sane.names) (λ i row here. deleted (suc i) row.asked d name is.sane.names stands (is.sane.loads i row here));
  each = λ other domain at. is.each other domain (before other domain at (name_eq name other) refl);
  asked = λ i row here. each_moved (suc i) d (without name d) log log
      (λ other domain at loader. (gone_others name other d is.sane.names (apart (suc i) other domain at loader), refl)) row.asked (is.asked i row here);
}
  where
    before : (other : List ℕ) (domain : Domain) → named other (without name d) ≡ Some domain → (b : Bool) → name_eq name other ≡ b → named other d ≡ Some domain
    before other domain at true e =
        absurd (cc (sym (gone name d is.sane.names) ∙ ap (λ (n : List ℕ). named n (without name d)) (names_same name other e) ∙ at))
    before other domain at false e = sym (gone_others name other d is.sane.names e) ∙ at

    apart : (client : ℕ) (other : List ℕ) (domain : Domain) → named other d ≡ Some domain → domain.loader ≡ Some client → name_eq name other ≡ false
    apart client other domain at loader = by_test (name_eq name other) refl
      where
        loading : is_there is_loading other d ≡ true
        loading = ap (λ (o : Option Domain). option_map_or is_loading o false) at ∙ ap (λ (o : Option ℕ). is_some o) loader

        by_test : (b : Bool) → name_eq name other ≡ b → b ≡ false
        by_test true e =
            absurd (cc (sym stands ∙ ap (λ (n : List ℕ). is_there is_loading n d) (names_same name other e) ∙ loading))
        by_test false e = refl

-- ---- program invocations come to a domain, or leave it

tracked_used : (log : List LoadStep) (d : Rows) (rows : List ClientRow) (name : List ℕ) (f : Domain → Domain) → IsOfUsers f → IsTracked log d rows
    → IsTracked log (changed name f d) rows
tracked_used log d rows name f of is = record {
  sane = sane_of (changed name f d) rows (changed_names name f d is.sane.names) (λ i row here. loads (suc i) row.asked (is.sane.loads i row here));
  each = λ other after at.
      let was = before_users name f of d other after at in
      subst (λ (m : Domain). IsTold other m.loader m (last_load other log)) (sym was.2)
      (told_users other was.0.loader was.0 after.invocations (last_load other log) (is.each other was.0 was.1));
  asked = λ i row here. each_users name f of d (suc i) log row.asked (is.asked i row here);
}
  where
    loads : (client : ℕ) (us : List Unanswered) → AreLoads client us d → AreLoads client us (changed name f d)
    loads client us agree = record {
      each = λ own.
          agree.each own ∙ ap once (sym (there_users name f of d (is_loaded_by client) (λ domain users. refl) own));
    }

-- ---- a client answers

module _ (log : List LoadStep) (d : Rows) (rows : List ClientRow) (k : ℕ) (row : ClientRow) (number : ℕ) (from : Came) (at : slice_get rows k ≡ Some row)
    (apart : AreApart row.asked) (reply : IsReply row.asked number from) (is : IsTracked log d rows) where
  abbrev own : List ℕ
  own = reply.name

  abbrev answer : Reply
  answer = reply_of from (reply.kind, reply.name)

  abbrev answered : Rows
  answered = reply_after answer d

  abbrev answered_log : List LoadStep
  answered_log = log ++ Answers (suc k) answer ∷ []

  abbrev next : Option Asked
  next = asked_next answer d

  its_name : domain_of answer ≡ own
  its_name = domain_answered from (reply.kind, reply.name)

  loads_own : answers_load (suc k) answer d ≡ true
  loads_own = loads_it (bare d) (suc k) number row.asked from (of_load row.asked number from reply) (is.sane.loads k row at)

  own_loaded : is_there (is_loaded_by (suc k)) own d ≡ true
  own_loaded = subst (λ (n : List ℕ). is_there (is_loaded_by (suc k)) n d ≡ true) its_name loads_own

  outcome : Outcome (suc k) own d is.sane.names log answered answered_log next
  outcome =
      settle (suc k) own d is.sane.names log from reply.kind reply.suits
      (each_of (suc k) d log number row.asked reply.kind own reply.asked (is.asked k row at))

  -- the others stay, and their last loads
  others : (name : List ℕ) → name_eq own name ≡ false → (named name answered ≡ named name d) × (last_load name answered_log ≡ last_load name log)
  others name ne = (
    reply_others (suc k) answer d name is.sane.names loads_own (ap (λ (n : List ℕ). name_eq n name) its_name ∙ ne),
    last_other (suc k) answer log name (ap (λ (n : List ℕ). name_eq name n) its_name ∙ turned own name ne),
  )

  answered_each : (name : List ℕ) (domain : Domain) → named name answered ≡ Some domain → IsTold name domain.loader domain (last_load name answered_log)
  answered_each name domain here = by_test (name_eq own name) refl
    where
      by_test : (b : Bool) → name_eq own name ≡ b → IsTold name domain.loader domain (last_load name answered_log)
      by_test true e =
          let same = names_same own name e in
          subst (λ (n : List ℕ). IsTold n domain.loader domain (last_load n answered_log)) same
          (outcome.told domain (ap (λ (n : List ℕ). named n answered) same ∙ here))
      by_test false e =
          let o = others name e in
          subst (λ (l : Option Load). IsTold name domain.loader domain l) (sym o.1) (is.each name domain (sym o.0 ∙ here))

  -- what another client loads is another domain
  not_own : (other : ℕ) (name : List ℕ) (domain : Domain) → suc k ≢ other → named name d ≡ Some domain → domain.loader ≡ Some other → name_eq own name ≡ false
  not_own other name domain ne here loader = by_test (name_eq own name) refl
    where
      by_test : (b : Bool) → name_eq own name ≡ b → b ≡ false
      by_test true e =
          let mine : is_there (is_loaded_by (suc k)) name d ≡ true = subst (λ (n : List ℕ). is_there (is_loaded_by (suc k)) n d ≡ true) (names_same own name e) own_loaded in
          let not_mine = ap (λ (o : Option Domain). option_map_or (is_loaded_by (suc k)) o false) here ∙ no_loader (suc k) other domain ne loader in
          absurd (cc (sym mine ∙ not_mine))
      by_test false e = refl

  -- nothing else is asked of it
  none_left : count_by (asks_load own) (unsettled number row.asked) ≡ 0
  none_left =
      let u = asked_row number row.asked (reply.kind, own) reply.asked in
      let all = count_settled (asks_load own) number row.asked u.0 apart u.1 in
      let its : asks_load own u.0 ≡ true =
      ap (λ (kind : Asked). is_of_load_kind kind && name_eq u.0.domain own) u.2 ∙ ap (λ (b : Bool). b && name_eq u.0.domain own) (of_load row.asked number from reply).kind
      ∙ ap (λ (n : List ℕ). name_eq n own) u.3 ∙ nat_list_eq_equiv.refl own in
      let one : once (asks_load own u.0) ≡ 1 = ap once its in
      let was : count_by (asks_load own) row.asked ≡ 1 = (is.sane.loads k row at).each own ∙ ap once own_loaded in
      omega (arith, all, one, was)

  rest_asked : EachAsked (suc k) answered answered_log (unsettled number row.asked)
  rest_asked =
      each_rest (suc k) d answered log answered_log own (λ name ne. others name (turned name own ne)) (unsettled number row.asked) none_left
      (each_unsettled (suc k) d log number row.asked (is.asked k row at))

  own_asked : (o : Option Asked) → NextAsked (suc k) own d is.sane.names log answered answered_log o → EachAsked (suc k) answered answered_log (felt_all (reply_told number o own) row).asked
  own_asked None so = rest_asked
  own_asked (Some kind) so =
      each_push (suc k) answered answered_log (unsettled number row.asked) (record { invoke = row.next_invoke; kind = kind; domain = own }) rest_asked so

  tracked_told : IsTracked answered_log answered (delivered cell (tell (suc k) (reply_told number next own)) rows)
  tracked_told =
      let right = replied_sane (bare d) rows is.sane k row at apart number from (of_load row.asked number from reply) in
      record {
        sane = sane_of answered (delivered cell (tell (suc k) (reply_told number next own)) rows) right.names
            (subst (λ (told : List (ℕ × Effect)). AreAllLoads (delivered cell told rows) answered) (as_told (suc k) number next own) right.loads);
        each = answered_each;
        asked = told_rows (IsOfLoads d log) (IsOfLoads answered answered_log) (reply_told number next own) rows k is.asked
            (λ other r ne q. each_moved other d answered log answered_log (λ name domain here loader. others name (not_own other name domain ne here loader)) r.asked q)
            (λ r here. let same : row ≡ r = cc (at, here) in
            subst (λ (c : ClientRow). EachAsked (suc k) answered answered_log (felt_all (reply_told number next own) c).asked) same (own_asked next outcome.onward));
      }

  tracked_replied : IsTracked answered_log answered (delivered cell ((suc k, Settles number) ∷ asks_next (suc k) next own) rows)
  tracked_replied = subst (λ (told : List (ℕ × Effect)). IsTracked answered_log answered (delivered cell told rows)) (sym (as_told (suc k) number next own)) tracked_told

tracked_kept : IsKept IsTracked
tracked_kept = record {
  plain = tracked_plain;
  spared = tracked_spared;
  closed = tracked_closed;
  nobody = tracked_nobody;
  begun = λ log d rows k left x room none is. tracked_begun log d k left x none rows is;
  deleted = tracked_deleted;
  used = tracked_used;
  replied = tracked_replied;
}

-- ---- the start

tracked_first : (config : Config) → IsConfig config → IsTracked [] (start config).domains.domains (start config).clients
tracked_first config is = record {
  sane = sane_of [] (start config).clients first_names (λ i row here.
      let next : i + 1 ≡ suc i = omega arith in
      subst (λ (n : ℕ). AreLoads n row.asked []) next ((start_sound config is).loads i row here));
  each = λ name domain at. absurd (cc at);
  asked = λ i row here. subst (λ (us : List Unanswered). EachAsked (suc i) [] [] us) (sym (first_asked config i row here)) tt;
}

replay_tracked : (config : Config) (history : List CellEvent) → IsConfig config
    → IsTracked (load_steps (start config) history) (replay config history).domains.domains (replay config history).clients
replay_tracked config history is = kept_along IsTracked tracked_kept 0 (start config) [] history (start_sound config is) (tracked_first config is)

-- a domain that is live is loaded by nobody
live_loader : (o : Option ℕ) → not (is_some o) ≡ true → o ≡ None
live_loader None e = refl
live_loader (Some client) e = absurd (cc e)

pub replay_live : (config : Config) (history : List CellEvent) (name : List ℕ) (domain : Domain) → IsConfig config
    → named name (replay config history).domains.domains ≡ Some domain → is_live domain ≡ true
    → WasLoaded name domain (last_load name (load_steps (start config) history))
replay_live config history name domain is at live =
    subst (λ (o : Option ℕ). IsTold name o domain (last_load name (load_steps (start config) history))) (live_loader domain.loader live)
    ((replay_tracked config history is).each name domain at)

pub replay_loading : (config : Config) (history : List CellEvent) (name : List ℕ) (domain : Domain) (client : ℕ) → IsConfig config
    → named name (replay config history).domains.domains ≡ Some domain → domain.loader ≡ Some client
    → IsLoading name client domain (last_load name (load_steps (start config) history))
replay_loading config history name domain client is at loader =
    subst (λ (o : Option ℕ). IsTold name o domain (last_load name (load_steps (start config) history))) loader ((replay_tracked config history is).each name domain at)
