-- What each domain is by its last load, and what clients are asked of it, whatever is done to loads, to domains and to
-- clients.
use Rattle.std.specs.Prelude.{◌≡◌, ◌≢◌, ℕ, ◌+◌, ◌==◌, ◌&&◌, All, Bool, true, false, not, cond, count_by, length, option_map, Option, None, Some, List, [], ◌∷◌, ◌++◌, if◌then◌else◌, refl}
use Rattle.std.specs.Option.{option_map_or}
use Rattle.std.proofs.Common.{ap, sym, ◌∙◌, subst, arith}
use Rattle.std.proofs.lemmas.Bool.Decides.{Decides-eqb}
use Rattle.std.proofs.lemmas.Cmp.{nat_list_eq_equiv}
use Rattle.std.proofs.lemmas.List.{map-append}
use Rattle.std.proofs.lemmas.List.Elements.{All-nil, All-push}
use Rattle.std.proofs.lemmas.List.Sums.{fold_push, sum_by-cons}
use Rattle.std.proofs.lemmas.Map.Entries.{lookup-filter-values, option_filter}
use Rattle.std.proofs.lemmas.Slice.Eq.{slice_eq-Decides}
use Rattle.mms_types.specs.declared.asked.Asked.{Asked}
use Rattle.mms_types.specs.declared.asked.Asked.TheVariants as asks
use Rattle.mms_types.specs.declared.asked.Reply.{Reply}
use Rattle.mms_types.specs.declared.asked.Reply.TheVariants as reply
use Rattle.mms_types.specs.declared.domain.InitiateDownloadSequence.{InitiateDownloadSequence}
use Rattle.association.specs.Asked.{asked_of, row_asked, unsettled}
use Rattle.association.specs.declared.unanswered.Unanswered.{Unanswered}
use Rattle.domain_load.specs.Domains.{Rows, is_there, name_eq, named, without, without_loads}
use Rattle.domain_load.specs.Loading.{asked_next, begun, brings, brought, changed, domain_of, initiate_after, initiate_cause, loaded, reply_after, with_segment, would_pass}
use Rattle.domain_load.specs.Standing.{is_loaded_by}
use Rattle.domain_load.specs.declared.domain.Domain.{Domain}
use Rattle.domain_load.proofs.Outcomes.{begins, gone, is_changed, lost_others}
use Rattle.cell_client.specs.Association.{Arrives, Came, Ends, Fails}
use Rattle.serve_domains.specs.Domains.{reply_of}
use Rattle.serve_domains.specs.Loads.{asks_load, is_of_load_kind}
use Rattle.step_sound.proofs.DomainNames.{HaveNames}
use Rattle.cell_laws.specs.Loads.{Answers, Begins, IsLoading, Load, LoadStep, WasLoaded, answers_of, but_last, last_load, load_after, with_answer}
use Rattle.cell_laws.proofs.Bound.{nat-same, nat-test}
use Rattle.cell_laws.proofs.LoadMeant.{Suits}

-- ---- what holds of a domain, and of what is asked of it

-- a domain is as its last load tells, by who loads it
abbrev pub IsTold : List ℕ → Option ℕ → Domain → Option Load → Type 0
IsTold name None domain last = WasLoaded name domain last
IsTold name (Some client) domain last = IsLoading name client domain last

abbrev pub SayMore : List (List ℕ × Bool) → Type 0
SayMore parts = All (λ part. part.1 ≡ true) parts

-- the client loads the domain of that name, and answered with these segments so far
pub record IsBrought (client : ℕ) (name : List ℕ) (parts : List (List ℕ × Bool)) (found : Option Domain) (last : Option Load) : Type 0 where
  pub domain : Domain
  pub there : found ≡ Some domain
  pub loader : domain.loader ≡ Some client
  pub asked : InitiateDownloadSequence
  pub is : last ≡ Some (record { client = client; asked = asked; answers = answers_of client (brings name parts) })
  pub segments : domain.segments ≡ brought parts
  pub capabilities : domain.capabilities ≡ asked.capabilities
  pub sharable : domain.sharable ≡ asked.sharable

-- a segment is asked for while each that came is followed by more, and the end once one came that isn't
abbrev pub IsAsked : ℕ → Asked → List ℕ → Option Domain → Option Load → Type 0
IsAsked client asks.Segment name found last = (parts : List (List ℕ × Bool)) × IsBrought client name parts found last × SayMore parts
IsAsked client asks.Terminate name found last =
    (parts : List (List ℕ × Bool)) × (final : List ℕ) × IsBrought client name (parts ++ (final, false) ∷ []) found last × SayMore parts
IsAsked client asks.Discard name found last = Unit {0}

abbrev pub EachAsked : ℕ → Rows → List LoadStep → List Unanswered → Type 0
EachAsked client d log [] = Unit {0}
EachAsked client d log (u ∷ us) = IsAsked client u.kind u.domain (named u.domain d) (last_load u.domain log) × EachAsked client d log us

-- ---- names and clients

abbrev pub once : Bool → ℕ
once b = if b then 1 else 0

pub names_same : (a b : List ℕ) → name_eq a b ≡ true → a ≡ b
names_same a b e = (slice_eq-Decides Decides-eqb a b (name_eq a b) refl).0 e

pub turned : (a b : List ℕ) → name_eq a b ≡ false → name_eq b a ≡ false
turned a b other = nat_list_eq_equiv.symm b a ∙ other

-- a domain that another client loads isn't loaded by this one
pub no_loader : (client other : ℕ) (domain : Domain) → client ≢ other → domain.loader ≡ Some other → is_loaded_by client domain ≡ false
no_loader client other domain apart loader = ap (λ (o : Option ℕ). option_map_or (λ l. l == client) o false) loader ∙ by_test (other == client) refl
  where
    by_test : (b : Bool) → (other == client) ≡ b → b ≡ false
    by_test true e = absurd (apart (sym (nat-same other client e)))
    by_test false e = refl

pub its_loader : (client : ℕ) (domain : Domain) → domain.loader ≡ Some client → is_loaded_by client domain ≡ true
its_loader client domain loader = ap (λ (o : Option ℕ). option_map_or (λ l. l == client) o false) loader ∙ nat-test client client refl

-- ---- where a domain and its last load stay, so does what is asked of it

carried : (client : ℕ) (name : List ℕ) (parts : List (List ℕ × Bool)) (found after : Option Domain) (last latest : Option Load) → after ≡ found → latest ≡ last
    → IsBrought client name parts found last → IsBrought client name parts after latest
carried client name parts found after last latest f l is = record {
  domain = is.domain;
  there = f ∙ is.there;
  loader = is.loader;
  asked = is.asked;
  is = l ∙ is.is;
  segments = is.segments;
  capabilities = is.capabilities;
  sharable = is.sharable;
}

moved : (client : ℕ) (kind : Asked) (name : List ℕ) (found after : Option Domain) (last latest : Option Load)
    → ((domain : Domain) → found ≡ Some domain → domain.loader ≡ Some client → (after ≡ found) × (latest ≡ last))
    → IsAsked client kind name found last → IsAsked client kind name after latest
moved client asks.Segment name found after last latest same is =
    let s = same is.1.domain is.1.there is.1.loader in
    (is.0, carried client name is.0 found after last latest s.0 s.1 is.1, is.2)
moved client asks.Terminate name found after last latest same is =
    let s = same is.2.domain is.2.there is.2.loader in
    (is.0, is.1, carried client name (is.0 ++ (is.1, false) ∷ []) found after last latest s.0 s.1 is.2, is.3)
moved client asks.Discard name found after last latest same is = tt

module _ (client : ℕ) (d after : Rows) (log latest : List LoadStep) where
  pub each_moved : ((name : List ℕ) (domain : Domain) → named name d ≡ Some domain → domain.loader ≡ Some client
      → (named name after ≡ named name d) × (last_load name latest ≡ last_load name log))
      → (us : List Unanswered) → EachAsked client d log us → EachAsked client after latest us
  each_moved same [] is = tt
  each_moved same (u ∷ us) is = (
    moved client u.kind u.domain (named u.domain d) (named u.domain after) (last_load u.domain log) (last_load u.domain latest) (same u.domain) is.0,
    each_moved same us is.1,
  )

  module _ (own : List ℕ) (same : (name : List ℕ) → name_eq name own ≡ false → (named name after ≡ named name d) × (last_load name latest ≡ last_load name log)) where
    moved_rest : (kind : Asked) (name : List ℕ) → (is_of_load_kind kind && name_eq name own) ≡ false → IsAsked client kind name (named name d) (last_load name log)
        → IsAsked client kind name (named name after) (last_load name latest)
    moved_rest asks.Segment name apart is =
        let s = same name apart in
        (is.0, carried client name is.0 (named name d) (named name after) (last_load name log) (last_load name latest) s.0 s.1 is.1, is.2)
    moved_rest asks.Terminate name apart is =
        let s = same name apart in
        (is.0, is.1, carried client name (is.0 ++ (is.1, false) ∷ []) (named name d) (named name after) (last_load name log) (last_load name latest) s.0 s.1 is.2, is.3)
    moved_rest asks.Discard name apart is = tt

    -- of the others, where that domain is asked of no more
    pub each_rest : (us : List Unanswered) → count_by (asks_load own) us ≡ 0 → EachAsked client d log us → EachAsked client after latest us
    each_rest [] none is = tt
    each_rest (u ∷ us) none is = by_test (asks_load own u) refl (λ left. each_rest us left is.1)
      where
        all : count_by (asks_load own) (u ∷ us) ≡ once (asks_load own u) + count_by (asks_load own) us
        all = sum_by-cons (λ x. cond (asks_load own x) 1 0) u us

        by_test : (b : Bool) → asks_load own u ≡ b → (count_by (asks_load own) us ≡ 0 → EachAsked client after latest us) → EachAsked client after latest (u ∷ us)
        by_test true e rest = let one : once (asks_load own u) ≡ 1 = ap once e in absurd (omega (arith, all, one, none))
        by_test false e rest =
            let no : once (asks_load own u) ≡ 0 = ap once e in
            let left : count_by (asks_load own) us ≡ 0 = omega (arith, all, none, no) in
            (moved_rest u.kind u.domain e is.0, rest left)

-- ---- one request more, and less

module _ (client : ℕ) (d : Rows) (log : List LoadStep) where
  pub each_push : (us : List Unanswered) (u : Unanswered) → EachAsked client d log us → IsAsked client u.kind u.domain (named u.domain d) (last_load u.domain log)
      → EachAsked client d log (us ++ u ∷ [])
  each_push [] u is one = (one, tt)
  each_push (x ∷ us) u is one = (is.0, each_push us u is.1 one)

  pub each_unsettled : (number : ℕ) (us : List Unanswered) → EachAsked client d log us → EachAsked client d log (unsettled number us)
  each_unsettled number [] is = tt
  each_unsettled number (u ∷ us) is = by_test (u.invoke == number) (each_unsettled number us is.1)
    where
      by_test : (b : Bool) → EachAsked client d log (unsettled number us) → EachAsked client d log (cond (not b) (u ∷ unsettled number us) (unsettled number us))
      by_test true rest = rest
      by_test false rest = (is.0, rest)

  pub each_of : (number : ℕ) (us : List Unanswered) (kind : Asked) (name : List ℕ) → asked_of number us ≡ Some (kind, name) → EachAsked client d log us
      → IsAsked client kind name (named name d) (last_load name log)
  each_of number [] kind name asked is = absurd (cc asked)
  each_of number (u ∷ us) kind name asked is = by_test (u.invoke == number) (λ later. each_of number us kind name later is.1) asked
    where
      by_test : (b : Bool) → (asked_of number us ≡ Some (kind, name) → IsAsked client kind name (named name d) (last_load name log))
          → option_map {U = Asked × List ℕ} (λ (x : Unanswered). (x.kind, x.domain)) (cond b (Some u) (row_asked number us)) ≡ Some (kind, name)
          → IsAsked client kind name (named name d) (last_load name log)
      by_test true others e =
          let same : ◌≡◌ {A = Asked × List ℕ} (u.kind, u.domain) (kind, name) = cc e in
          subst (λ (x : Asked × List ℕ). IsAsked client x.0 x.1 (named x.1 d) (last_load x.1 log)) same is.0
      by_test false others e = others e

-- ---- the last load after one step more

pub last_begun : (client : ℕ) (x : InitiateDownloadSequence) (log : List LoadStep)
    → last_load x.domain (log ++ Begins client x ∷ []) ≡ Some (record { client = client; asked = x; answers = [] })
last_begun client x log =
    fold_push (load_after x.domain) None log (Begins client x)
    ∙ ap (λ (b : Bool). if b then Some (record { client = client; asked = x; answers = [] }) else last_load x.domain log) (nat_list_eq_equiv.refl x.domain)

pub last_begins : (client : ℕ) (x : InitiateDownloadSequence) (log : List LoadStep) (name : List ℕ) → name_eq name x.domain ≡ false
    → last_load name (log ++ Begins client x ∷ []) ≡ last_load name log
last_begins client x log name apart =
    fold_push (load_after name) None log (Begins client x)
    ∙ ap (λ (b : Bool). if b then Some (record { client = client; asked = x; answers = [] }) else last_load name log) apart

pub last_other : (client : ℕ) (answer : Reply) (log : List LoadStep) (name : List ℕ) → name_eq name (domain_of answer) ≡ false
    → last_load name (log ++ Answers client answer ∷ []) ≡ last_load name log
last_other client answer log name apart =
    fold_push (load_after name) None log (Answers client answer)
    ∙ ap (λ (b : Bool). if b then option_map (with_answer client answer) (last_load name log) else last_load name log) apart

last_own : (client : ℕ) (answer : Reply) (log : List LoadStep) (name : List ℕ) → name_eq name (domain_of answer) ≡ true
    → last_load name (log ++ Answers client answer ∷ []) ≡ option_map (with_answer client answer) (last_load name log)
last_own client answer log name same =
    fold_push (load_after name) None log (Answers client answer)
    ∙ ap (λ (b : Bool). if b then option_map (with_answer client answer) (last_load name log) else last_load name log) same

-- ---- segments that came

but_last_push : {A : Type 0} (xs : List A) (x : A) → but_last (xs ++ x ∷ []) ≡ xs
but_last_push [] x = refl
but_last_push (y ∷ []) x = refl
but_last_push (y ∷ z ∷ xs) x = ap (λ l. y ∷ l) (but_last_push (z ∷ xs) x)

answers_more : (client : ℕ) (answers : List Reply) (answer : Reply) → answers_of client answers ++ (client, answer) ∷ [] ≡ answers_of client (answers ++ answer ∷ [])
answers_more client answers answer = sym (map-append (λ (a : Reply). (client, a)) answers (answer ∷ []))

brings_more : (name : List ℕ) (parts : List (List ℕ × Bool)) (part : List ℕ × Bool) → brings name parts ++ reply.Segment name part.0 part.1 ∷ [] ≡ brings name (parts ++ part ∷ [])
brings_more name parts part = sym (map-append (λ (p : List ℕ × Bool). reply.Segment name p.0 p.1) parts (part ∷ []))

brought_more : (parts : List (List ℕ × Bool)) (part : List ℕ × Bool) → brought parts ++ part.0 ∷ [] ≡ brought (parts ++ part ∷ [])
brought_more parts part = sym (map-append (λ (p : List ℕ × Bool). p.0) parts (part ∷ []))

-- a domain that is loaded so is told
is_told : (client : ℕ) (name : List ℕ) (parts : List (List ℕ × Bool)) (found : Option Domain) (last : Option Load) → IsBrought client name parts found last
    → SayMore (but_last parts) → (domain : Domain) → found ≡ Some domain → IsTold name domain.loader domain last
is_told client name parts found last is more domain at =
    let it : is.domain ≡ domain = cc (sym is.there ∙ at) in
    subst (λ (m : Domain). IsTold name m.loader m last) it
    (subst (λ (o : Option ℕ). IsTold name o is.domain last) (sym is.loader)
    (record { asked = is.asked; parts = parts; is = is.is; more = more; segments = is.segments; capabilities = is.capabilities; sharable = is.sharable }))

-- a load that begins
pub brought_first : (client : ℕ) (left : Bool) (x : InitiateDownloadSequence) (d : Rows) (log : List LoadStep) → initiate_cause left x d ≡ None
    → IsBrought client x.domain [] (named x.domain (initiate_after client x d)) (last_load x.domain (log ++ Begins client x ∷ []))
brought_first client left x d log none = record {
  domain = begun client x;
  there = begins client left x d none;
  loader = refl;
  asked = x;
  is = last_begun client x log;
  segments = refl;
  capabilities = refl;
  sharable = refl;
}

pub told_first : (client : ℕ) (left : Bool) (x : InitiateDownloadSequence) (d : Rows) (log : List LoadStep) → initiate_cause left x d ≡ None → (domain : Domain)
    → named x.domain (initiate_after client x d) ≡ Some domain → IsTold x.domain domain.loader domain (last_load x.domain (log ++ Begins client x ∷ []))
told_first client left x d log none =
    is_told client x.domain [] (named x.domain (initiate_after client x d)) (last_load x.domain (log ++ Begins client x ∷ [])) (brought_first client left x d log none)
    (All-nil (λ (part : List ℕ × Bool). part.1 ≡ true))

-- ---- an answer of the client

module _ (client : ℕ) (name : List ℕ) (d : Rows) (names : HaveNames d) (log : List LoadStep) where
  abbrev pub latest : Reply → List LoadStep
  latest answer = log ++ Answers client answer ∷ []

  -- what is asked next, where anything is
  abbrev pub NextAsked : Rows → List LoadStep → Option Asked → Type 0
  NextAsked after steps None = Unit {0}
  NextAsked after steps (Some kind) = IsAsked client kind name (named name after) (last_load name steps)

  pub record Outcome (after : Rows) (steps : List LoadStep) (next : Option Asked) : Type 0 where
    pub told : (domain : Domain) → named name after ≡ Some domain → IsTold name domain.loader domain (last_load name steps)
    pub onward : NextAsked after steps next

  -- a segment comes
  came : (parts : List (List ℕ × Bool)) (octets : List ℕ) (more : Bool) → IsBrought client name parts (named name d) (last_load name log)
      → IsBrought client name (parts ++ (octets, more) ∷ []) (named name (changed name (with_segment octets) d)) (last_load name (latest (reply.Segment name octets more)))
  came parts octets more is = record {
    domain = with_segment octets is.domain;
    there = is_changed name (with_segment octets) d is.domain is.there;
    loader = is.loader;
    asked = is.asked;
    is = last_own client (reply.Segment name octets more) log name (nat_list_eq_equiv.refl name)
        ∙ ap (option_map (with_answer client (reply.Segment name octets more))) is.is
        ∙ ap (λ (l : List (ℕ × Reply)). Some (record { client = client; asked = is.asked; answers = l }))
        (answers_more client (brings name parts) (reply.Segment name octets more) ∙ ap (answers_of client) (brings_more name parts (octets, more)));
    segments = ap (λ (l : List (List ℕ)). l ++ octets ∷ []) is.segments ∙ brought_more parts (octets, more);
    capabilities = is.capabilities;
    sharable = is.sharable;
  }

  -- the load has ended
  ended : (parts : List (List ℕ × Bool)) (final : List ℕ) → IsBrought client name (parts ++ (final, false) ∷ []) (named name d) (last_load name log) → SayMore parts
      → (domain : Domain) → named name (changed name loaded d) ≡ Some domain → IsTold name domain.loader domain (last_load name (latest (reply.Ended name)))
  ended parts final is more domain at =
      let it : loaded is.domain ≡ domain = cc (sym (is_changed name loaded d is.domain is.there) ∙ at) in
      subst (λ (m : Domain). IsTold name m.loader m (last_load name (latest (reply.Ended name)))) it whole
    where
      whole : WasLoaded name (loaded is.domain) (last_load name (latest (reply.Ended name)))
      whole = record {
        client = client;
        asked = is.asked;
        parts = parts;
        final = final;
        is = last_own client (reply.Ended name) log name (nat_list_eq_equiv.refl name)
            ∙ ap (option_map (with_answer client (reply.Ended name))) is.is
            ∙ ap (λ (l : List (ℕ × Reply)). Some (record { client = client; asked = is.asked; answers = l }))
            (answers_more client (brings name (parts ++ (final, false) ∷ [])) (reply.Ended name));
        more = more;
        segments = is.segments;
        capabilities = is.capabilities;
        sharable = is.sharable;
      }

  -- or nothing stays of it
  removed : (steps : List LoadStep) (next : Option Asked) → NextAsked (without name d) steps next → Outcome (without name d) steps next
  removed steps next asked = record { told = λ domain at. absurd (cc (sym (gone name d names) ∙ at)); onward = asked }

  pub settle : (from : Came) (kind : Asked) → Suits from kind → IsAsked client kind name (named name d) (last_load name log)
      → Outcome (reply_after (reply_of from (kind, name)) d) (latest (reply_of from (kind, name))) (asked_next (reply_of from (kind, name)) d)
  settle (Arrives segment) asks.Segment suits is = by_passes (is_there (would_pass (length segment.octets)) name d)
    where
      after : Rows
      after = changed name (with_segment segment.octets) d

      steps : List LoadStep
      steps = latest (reply.Segment name segment.octets segment.more)

      brings_it : IsBrought client name (is.0 ++ (segment.octets, segment.more) ∷ []) (named name after) (last_load name steps)
      brings_it = came is.0 segment.octets segment.more is.1

      by_more : (m : Bool) → segment.more ≡ m → IsAsked client (if m then asks.Segment else asks.Terminate) name (named name after) (last_load name steps)
      by_more true e = (
        is.0 ++ (segment.octets, segment.more) ∷ [],
        brings_it,
        All-push (λ (part : List ℕ × Bool). part.1 ≡ true) is.0 (segment.octets, segment.more) is.2 e,
      )
      by_more false e = (
        is.0,
        segment.octets,
        subst (λ (m : Bool). IsBrought client name (is.0 ++ (segment.octets, m) ∷ []) (named name after) (last_load name steps)) e brings_it,
        is.2,
      )

      by_passes : (b : Bool)
          → Outcome (if b then without name d else changed name (with_segment segment.octets) d) steps
          (Some (if b then asks.Discard else if segment.more then asks.Segment else asks.Terminate))
      by_passes true = removed steps (Some asks.Discard) tt
      by_passes false = record {
        told = is_told client name (is.0 ++ (segment.octets, segment.more) ∷ []) (named name after) (last_load name steps) brings_it
            (subst (λ (l : List (List ℕ × Bool)). SayMore l) (sym (but_last_push is.0 (segment.octets, segment.more))) is.2);
        onward = by_more segment.more refl;
      }
  settle (Arrives segment) asks.Terminate suits is = absurd suits
  settle (Arrives segment) asks.Discard suits is = absurd suits
  settle Ends asks.Segment suits is = absurd suits
  settle Ends asks.Terminate suits is = record { told = ended is.0 is.1 is.2 is.3; onward = tt }
  settle Ends asks.Discard suits is = absurd suits
  settle Fails asks.Segment suits is = removed (latest (reply.Failed name asks.Segment)) (Some asks.Discard) tt
  settle Fails asks.Terminate suits is = removed (latest (reply.Failed name asks.Terminate)) None tt
  settle Fails asks.Discard suits is = absurd suits

-- ---- a client is lost

-- what is there then was there before
pub there_before : (client : ℕ) (name : List ℕ) (d : Rows) (domain : Domain) → HaveNames d → named name (without_loads client d) ≡ Some domain → named name d ≡ Some domain
there_before client name d domain names at =
    by_found (named name d) (sym (lookup-filter-values nat_list_eq_equiv (λ x. not (is_loaded_by client x)) name d names) ∙ at)
  where
    by_test : (x : Domain) (b : Bool) → cond (not b) (Some x) None ≡ Some domain → Some x ≡ Some domain
    by_test x true e = absurd (cc e)
    by_test x false e = e

    by_found : (o : Option Domain) → option_filter (λ x. not (is_loaded_by client x)) o ≡ Some domain → o ≡ Some domain
    by_found None e = absurd (cc e)
    by_found (Some x) e = by_test x (is_loaded_by client x) e

pub stays : (client other : ℕ) (name : List ℕ) (d : Rows) (domain : Domain) → client ≢ other → HaveNames d → named name d ≡ Some domain → domain.loader ≡ Some other
    → named name (without_loads client d) ≡ named name d
stays client other name d domain apart names at loader = lost_others client name d domain names at (no_loader client other domain apart loader) ∙ sym at
