-- The names that domains have stay those of the invocations that name them.
use Rattle.std.proofs.Common.{◌≡◌, ◌∙◌, ℕ, ◌+◌, ◌≤◌, Bool, true, false, cond, not, ◌&&◌, ◌||◌, List, [], ◌∷◌, ◌++◌, Option, None, Some, is_some, filter, length, map, refl, ap, sym, subst, arith, sum_by}
use Rattle.std.specs.Prelude.{◌≢◌, ◌==◌}
use Rattle.std.specs.List.{All, AllByRecursion, IsDistinct, list_any}
use Rattle.std.specs.Map.{keys_of, lookup, remove_entry, set_value}
use Rattle.std.specs.Option.{option_map, option_map_or, unwrap_or}
use Rattle.std.proofs.lemmas.Bool.Decides.{Decides-eqb, nat_tests}
use Rattle.std.proofs.lemmas.Cmp.{nat_list_eq_equiv}
use Rattle.std.proofs.lemmas.List.{map-append}
use Rattle.std.proofs.lemmas.List.Elements.{filter-append, recursion_from_All}
use Rattle.std.proofs.lemmas.List.Sums.{sum_by-append, sum_by-cons}
use Rattle.std.proofs.lemmas.Slice.Eq.{slice_eq-Decides}
use Rattle.mms_types.specs.declared.invocation.CreateProgramInvocation.{CreateProgramInvocation}
use Rattle.mms_types.specs.declared.invocation.RunProgram.{RunProgram}
use Rattle.object_names.specs.Listing.{insert_name, sorted_names}
use Rattle.object_names.proofs.Fewer.{still_few}
use Rattle.object_names.proofs.NameOrder.{ordered_inserted, sorted_ordered, sum_inserted, sum_sorted, unique}
use Rattle.domain_load.specs.Domains.{Rows as DomainRows, is_there, name_eq}
use Rattle.domain_load.specs.Domains as loaded
use Rattle.domain_load.specs.Loading as load
use Rattle.domain_load.specs.Standing.{is_live}
use Rattle.domain_load.specs.Used.{AreFreeFor, after_unused, after_used, had_by, is_free_for, is_had_by, is_taken, left_by}
use Rattle.domain_load.specs.declared.domain.Domain.{Domain}
use Rattle.domain_load.proofs.Outcomes.{found_changed}
use Rattle.domain_load.proofs.UserNames.{order_left}
use Rattle.domain_load.proofs.Users.{others_free}
use Rattle.program_inv.specs.Programs.{Rows, after_command, after_create, after_delete, after_ends, after_resume, after_start, changed, commanded, create_cause, made, named, told}
use Rattle.program_inv.specs.Table.{ended, next}
use Rattle.program_inv.specs.declared.command.Command.{Command}
use Rattle.program_inv.specs.declared.command.Command.TheVariants as bid
use Rattle.program_inv.specs.declared.invocation.Invocation.{Invocation}
use Rattle.mms_types.specs.declared.invocation.InvocationState.{InvocationState}
use Rattle.serve_programs.specs.Users.{AreUsed, is_of, users_of}
use Rattle.serve_programs.proofs.Apart.{deleted_named, keys_changed, made_named, none_named}
use Rattle.serve_programs.proofs.MadeLaws.{may_have}

pub names_same : (a b : List ℕ) → name_eq a b ≡ true → a ≡ b
names_same a b e = (slice_eq-Decides Decides-eqb a b (name_eq a b) refl).0 e

eq_other_way : (a b : List ℕ) → name_eq a b ≡ name_eq b a
eq_other_way a b = by_tests (name_eq a b) refl (name_eq b a) refl
  where
    by_tests : (x : Bool) → name_eq a b ≡ x → (y : Bool) → name_eq b a ≡ y → x ≡ y
    by_tests true e true f = refl
    by_tests false e false f = refl
    by_tests true e false f = sym (nat_list_eq_equiv.refl b) ∙ ap (λ (n : List ℕ). name_eq b n) (sym (names_same a b e)) ∙ f
    by_tests false e true f = sym (sym (nat_list_eq_equiv.refl a) ∙ ap (λ (n : List ℕ). name_eq a n) (sym (names_same b a f)) ∙ e)

-- at the start there is neither
pub none_used : AreUsed [] []
none_used = record { apart = none_named; names = λ name d there. absurd (cc there); live = λ name some. absurd (some refl); one = λ name d there alone. absurd (cc there) }

-- ---- nothing of it changes where the invocations name the same domains

pub same_used : (domains : DomainRows) (was now : Rows) → keys_of now ≡ keys_of was → ((name : List ℕ) → users_of name now ≡ users_of name was) → AreUsed domains was → AreUsed domains now
same_used domains was now keys same used = record {
  apart = subst (λ (l : List (List ℕ)). IsDistinct name_eq l) (sym keys) used.apart;
  names = λ name d there. used.names name d there ∙ sym (same name);
  live = λ name some. used.live name (λ none. some (same name ∙ none));
  one = used.one;
}

keys_first : (q : List ℕ × Invocation → Bool) (row : List ℕ × Invocation) (rows : Rows)
    → keys_of (filter q (row ∷ rows)) ≡ cond (q row) (row.0 ∷ keys_of (filter q rows)) (keys_of (filter q rows))
keys_first q row rows = by_test (q row)
  where
    by_test : (b : Bool) → keys_of (cond b (row ∷ filter q rows) (filter q rows)) ≡ cond b (row.0 ∷ keys_of (filter q rows)) (keys_of (filter q rows))
    by_test true = refl
    by_test false = refl

module _ (n : List ℕ) where
  abbrev users : Rows → List (List ℕ)
  users rows = keys_of (filter (is_of n) rows)

  users_set : (test : List ℕ → Bool) (w p : Invocation) → w.domains ≡ p.domains → (rows : Rows) → lookup test rows ≡ Some p → users (set_value test rows w) ≡ users rows
  users_set test w p same [] e = refl
  users_set test w p same (row ∷ rows) e = by_test (test row.0) e (users_set test w p same rows)
    where
      by_test : (b : Bool) → cond b (Some row.1) (lookup test rows) ≡ Some p → (lookup test rows ≡ Some p → users (set_value test rows w) ≡ users rows)
          → users (cond b ((row.0, w) ∷ rows) (row ∷ set_value test rows w)) ≡ users (row ∷ rows)
      by_test true is rest =
          let own : row.1 ≡ p = cc is in
          keys_first (is_of n) (row.0, w) rows
          ∙ ap (λ (names : List (List ℕ)). cond (list_any (name_eq n) names) (row.0 ∷ users rows) (users rows)) (same ∙ sym (ap (λ (i : Invocation). i.domains) own))
          ∙ sym (keys_first (is_of n) row rows)
      by_test false is rest =
          keys_first (is_of n) row (set_value test rows w)
          ∙ ap (λ (l : List (List ℕ)). cond (is_of n row) (row.0 ∷ l) l) (rest is)
          ∙ sym (keys_first (is_of n) row rows)

  users_changed : (name : List ℕ) (f : Invocation → Invocation) → ((p : Invocation) → (f p).domains ≡ p.domains) → (rows : Rows) → users_of n (changed name f rows) ≡ users_of n rows
  users_changed name f same rows = by_found (named name rows) refl
    where
      by_found : (o : Option Invocation) → named name rows ≡ o → users_of n (option_map_or (λ p. set_value (name_eq name) rows (f p)) o rows) ≡ users_of n rows
      by_found None e = refl
      by_found (Some p) e = ap sorted_names (users_set (name_eq name) (f p) p (same p) rows e)

commanded_same : (command : Command) (p : Invocation) → (commanded command p).domains ≡ p.domains
commanded_same command p = by_next (next command p.reusable p.state)
  where
    by_next : (o : Option InvocationState) → (option_map_or (λ state. record p { state = state }) o p).domains ≡ p.domains
    by_next None = refl
    by_next (Some state) = refl

module _ (domains : DomainRows) (programs : Rows) (used : AreUsed domains programs) where
  -- one is changed, and names the same domains
  keeps : (name : List ℕ) (f : Invocation → Invocation) → ((p : Invocation) → (f p).domains ≡ p.domains) → AreUsed domains (changed name f programs)
  keeps name f same = same_used domains programs (changed name f programs) (keys_changed name f programs) (λ n. users_changed n name f same programs) used

  pub commands_keep : (command : Command) (name : List ℕ) → AreUsed domains (after_command command name programs)
  commands_keep command name = keeps name (commanded command) (commanded_same command)

  pub start_keeps : (request : RunProgram) → AreUsed domains (after_start request programs)
  start_keeps request = keeps request.name (λ p. told (unwrap_or request.argument []) (commanded bid.Start p)) (commanded_same bid.Start)

  pub resume_keeps : (request : RunProgram) → AreUsed domains (after_resume request programs)
  resume_keeps request = keeps request.name (λ p. told (unwrap_or request.argument p.argument) (commanded bid.Resume p)) (commanded_same bid.Resume)

  pub ends_keep : (name : List ℕ) → AreUsed domains (after_ends name programs)
  ends_keep name = keeps name (λ p. record p { state = ended p.reusable p.state }) (λ p. refl)

-- ---- an invocation is made

sorted_more : (names : List (List ℕ)) (name : List ℕ) → sorted_names (names ++ name ∷ []) ≡ insert_name name (sorted_names names)
sorted_more names name =
    unique (sorted_names (names ++ name ∷ [])) (insert_name name (sorted_names names)) (sorted_ordered (names ++ name ∷ [])) (ordered_inserted name (sorted_names names) (sorted_ordered names))
    (λ f.
    let all = sum_sorted f (names ++ name ∷ []) in
    let both = sum_by-append f names (name ∷ []) in
    let last = sum_by-cons f name [] in
    let put = sum_inserted f name (sorted_names names) in
    let old = sum_sorted f names in
    omega (arith, all, both, last, put, old))

users_more : (n by : List ℕ) (p : Invocation) (rows : Rows)
    → users_of n (rows ++ (by, p) ∷ []) ≡ cond (list_any (name_eq n) p.domains) (insert_name by (users_of n rows)) (users_of n rows)
users_more n by p rows =
    ap (λ (l : Rows). sorted_names (keys_of l)) (filter-append (is_of n) rows ((by, p) ∷ []))
    ∙ by_test (list_any (name_eq n) p.domains)
  where
    by_test : (b : Bool) → sorted_names (keys_of (filter (is_of n) rows ++ cond b ((by, p) ∷ []) [])) ≡ cond b (insert_name by (users_of n rows)) (users_of n rows)
    by_test true = ap sorted_names (map-append (λ row. row.0) (filter (is_of n) rows) ((by, p) ∷ [])) ∙ sorted_more (keys_of (filter (is_of n) rows)) by
    by_test false =
        ap sorted_names (map-append (λ row. row.0) (filter (is_of n) rows) [] ∙ none_more (keys_of (filter (is_of n) rows)))
      where
        none_more : (xs : List (List ℕ)) → xs ++ [] ≡ xs
        none_more [] = refl
        none_more (x ∷ xs) = ap (λ (l : List (List ℕ)). x ∷ l) (none_more xs)

-- a domain that is changed, and any other
changed_named : (m n : List ℕ) (f : Domain → Domain) (rows : DomainRows)
    → loaded.named n (load.changed m f rows) ≡ cond (name_eq m n) (option_map f (loaded.named n rows)) (loaded.named n rows)
changed_named m n f rows = by_found (loaded.named m rows) refl
  where
    by_name : (b : Bool) (d : Domain) → name_eq m n ≡ b → loaded.named m rows ≡ Some d
        → cond b (Some (f d)) (loaded.named n rows) ≡ cond b (option_map f (loaded.named n rows)) (loaded.named n rows)
    by_name true d e found = ap (option_map f) (sym found ∙ ap (λ (k : List ℕ). loaded.named k rows) (names_same m n e))
    by_name false d e found = refl

    none_here : (b : Bool) → name_eq m n ≡ b → loaded.named m rows ≡ None → loaded.named n rows ≡ cond b (option_map f (loaded.named n rows)) (loaded.named n rows)
    none_here true e none =
        let gone : loaded.named n rows ≡ None = ap (λ (k : List ℕ). loaded.named k rows) (sym (names_same m n e)) ∙ none in
        gone ∙ sym (ap (option_map f) gone)
    none_here false e none = refl

    by_found : (o : Option Domain) → loaded.named m rows ≡ o
        → loaded.named n (load.changed m f rows) ≡ cond (name_eq m n) (option_map f (loaded.named n rows)) (loaded.named n rows)
    by_found None e =
        ap (λ (o : Option Domain). loaded.named n (option_map_or (λ d. set_value (name_eq m) rows (f d)) o rows)) e ∙ none_here (name_eq m n) refl e
    by_found (Some d) e = found_changed m n f rows d e ∙ by_name (name_eq m n) d refl e

none_too : (m n : List ℕ) (names : List (List ℕ)) → name_eq m n ≡ true → AllByRecursion (λ other. name_eq m other ≡ false) names → list_any (name_eq n) names ≡ false
none_too m n [] e apart = refl
none_too m n (x ∷ xs) e apart =
    ap (λ (b : Bool). b || list_any (name_eq n) xs) (ap (λ (k : List ℕ). name_eq k x) (sym (names_same m n e)) ∙ apart.0) ∙ none_too m n xs e apart.1

-- a domain among those to which an invocation comes, and any other
used_named : (n by : List ℕ) (names : List (List ℕ)) (rows : DomainRows) → IsDistinct name_eq names
    → loaded.named n (after_used names by rows) ≡ cond (list_any (name_eq n) names) (option_map (had_by by) (loaded.named n rows)) (loaded.named n rows)
unfolding IsDistinct
used_named n by [] rows once = refl
used_named n by (m ∷ names) rows once =
    used_named n by names (load.changed m (had_by by) rows) once.1
    ∙ ap (λ (o : Option Domain). cond (list_any (name_eq n) names) (option_map (had_by by) o) o) (changed_named m n (had_by by) rows)
    ∙ by_tests (name_eq m n) (list_any (name_eq n) names) (λ e. none_too m n names e once.0)
    ∙ ap (λ (b : Bool). cond (b || list_any (name_eq n) names) (option_map (had_by by) (loaded.named n rows)) (loaded.named n rows)) (eq_other_way m n)
  where
    by_tests : (a any : Bool) → (a ≡ true → any ≡ false)
        → cond any (option_map (had_by by) (cond a (option_map (had_by by) (loaded.named n rows)) (loaded.named n rows))) (cond a (option_map (had_by by) (loaded.named n rows)) (loaded.named n rows))
        ≡ cond (a || any) (option_map (had_by by) (loaded.named n rows)) (loaded.named n rows)
    by_tests true false h = refl
    by_tests true true h = absurd (cc (h refl))
    by_tests false true h = refl
    by_tests false false h = refl

-- what a changed one was
mapped : (f : Domain → Domain) (o : Option Domain) (d : Domain) → option_map f o ≡ Some d → (old : Domain) × (o ≡ Some old) × (f old ≡ d)
mapped f None d e = absurd (cc e)
mapped f (Some old) d e = (old, refl, cc e)

free_there : (by n : List ℕ) (rows : DomainRows) (names : List (List ℕ)) → AllByRecursion (λ name. is_there (is_free_for by) name rows ≡ true) names
    → list_any (name_eq n) names ≡ true → is_there (is_free_for by) n rows ≡ true
free_there by n rows [] each e = absurd (cc e)
free_there by n rows (m ∷ names) each e = by_test (name_eq n m) refl e (free_there by n rows names each.1)
  where
    by_test : (b : Bool) → name_eq n m ≡ b → (b || list_any (name_eq n) names) ≡ true → (list_any (name_eq n) names ≡ true → is_there (is_free_for by) n rows ≡ true)
        → is_there (is_free_for by) n rows ≡ true
    by_test true is h later = ap (λ (k : List ℕ). is_there (is_free_for by) k rows) (names_same n m is) ∙ each.0
    by_test false is h later = later h

there_so : (p : Domain → Bool) (o : Option Domain) (d : Domain) → o ≡ Some d → option_map_or p o false ≡ true → p d ≡ true
there_so p o d is e = sym (ap (λ (x : Option Domain). option_map_or p x false) is) ∙ e

first_and : (a b c : Bool) → (a && b && c) ≡ true → (a ≡ true) × (b ≡ true)
first_and true true c e = (refl, refl)
first_and true false c e = absurd (cc e)
first_and false b c e = absurd (cc e)

pub at_least_one : (n : ℕ) → 1 ≤ n → not (n == 0) ≡ true
at_least_one n some = by_test (n == 0) refl
  where
    by_test : (b : Bool) → (n == 0) ≡ b → not b ≡ true
    by_test false is = refl
    by_test true is = absurd (let none : n ≡ 0 = grind (arith, nat_tests, is) in omega (arith, none, some))

-- one that isn't for several and is free has no name yet
nobody : (sharable : Bool) (names : List (List ℕ)) → sharable ≡ false → not (not sharable && not (length names == 0)) ≡ true → names ≡ []
nobody true names e free = absurd (cc e)
nobody false [] e free = refl
nobody false (name ∷ names) e free = absurd (cc (sym (ap not (at_least_one (length (name ∷ names)) (omega arith))) ∙ free))

module _ (domains : DomainRows) (programs : Rows) (used : AreUsed domains programs) (request : CreateProgramInvocation) (none : create_cause request domains programs ≡ None) where
  abbrev by : List ℕ
  by = request.name

  abbrev after : DomainRows
  after = after_used request.domains by domains

  free : AreFreeFor by request.domains domains
  free = may_have domains programs used request none

  abbrev has : List ℕ → Bool
  has n = list_any (name_eq n) request.domains

  there_after : (n : List ℕ) → loaded.named n after ≡ cond (has n) (option_map (had_by by) (loaded.named n domains)) (loaded.named n domains)
  there_after n = used_named n by request.domains domains free.once

  users_after : (n : List ℕ) → users_of n (after_create request programs) ≡ cond (has n) (insert_name by (users_of n programs)) (users_of n programs)
  users_after n = users_more n by (made request) programs

  is_free : (n : List ℕ) → has n ≡ true → is_there (is_free_for by) n domains ≡ true
  is_free n e = free_there by n domains request.domains (recursion_from_All (λ name. is_there (is_free_for by) name domains ≡ true) request.domains free.each) e

  names_so : (n : List ℕ) (d : Domain) (b : Bool) → has n ≡ b → cond b (option_map (had_by by) (loaded.named n domains)) (loaded.named n domains) ≡ Some d
      → d.invocations ≡ cond b (insert_name by (users_of n programs)) (users_of n programs)
  names_so n d true e there =
      let old = mapped (had_by by) (loaded.named n domains) d there in
      ap (λ (x : Domain). x.invocations) (sym old.2) ∙ ap (insert_name by) (used.names n old.0 old.1)
  names_so n d false e there = used.names n d there

  live_so : (n : List ℕ) (b : Bool) → has n ≡ b → (cond b (insert_name by (users_of n programs)) (users_of n programs) ≢ [])
      → option_map_or is_live (cond b (option_map (had_by by) (loaded.named n domains)) (loaded.named n domains)) false ≡ true
  live_so n true e some = by_found (loaded.named n domains) (is_free n e)
    where
      by_found : (o : Option Domain) → option_map_or (is_free_for by) o false ≡ true → option_map_or is_live (option_map (had_by by) o) false ≡ true
      by_found None h = absurd (cc h)
      by_found (Some d) h = (first_and (is_live d) (not (is_taken d)) (not (is_had_by by d)) h).0
  live_so n false e some = used.live n some

  one_so : (n : List ℕ) (d : Domain) (b : Bool) → has n ≡ b → cond b (option_map (had_by by) (loaded.named n domains)) (loaded.named n domains) ≡ Some d → d.sharable ≡ false
      → length d.invocations ≤ 1
  one_so n d true e there alone =
      let old = mapped (had_by by) (loaded.named n domains) d there in
      let mine = there_so (is_free_for by) (loaded.named n domains) old.0 old.1 (is_free n e) in
      let empty : old.0.invocations ≡ [] =
      nobody old.0.sharable old.0.invocations (ap (λ (x : Domain). x.sharable) old.2 ∙ alone) (first_and (is_live old.0) (not (is_taken old.0)) (not (is_had_by by old.0)) mine).1 in
      let size : length d.invocations ≡ 1 = ap (λ (x : Domain). length x.invocations) (sym old.2) ∙ ap (λ (l : List (List ℕ)). length (insert_name by l)) empty in
      omega (arith, size)
  one_so n d false e there alone = used.one n d there alone

  pub create_keeps : AreUsed after (after_create request programs)
  create_keeps = record {
    apart = made_named request domains programs none used.apart;
    names = λ n d there. names_so n d (has n) refl (sym (there_after n) ∙ there) ∙ sym (users_after n);
    live = λ n some. ap (λ (o : Option Domain). option_map_or is_live o false) (there_after n) ∙ live_so n (has n) refl (λ gone. some (users_after n ∙ gone));
    one = λ n d there alone. one_so n d (has n) refl (sym (there_after n) ∙ there) alone;
  }

-- ---- an invocation is deleted

module _ {X : Type 0} (p : X → Bool) where
  filter_twice : (xs : List X) → filter p (filter p xs) ≡ filter p xs
  filter_twice [] = refl
  filter_twice (x ∷ xs) = by_test (p x) refl (filter_twice xs)
    where
      by_test : (b : Bool) → p x ≡ b → filter p (filter p xs) ≡ filter p xs → filter p (cond b (x ∷ filter p xs) (filter p xs)) ≡ cond b (x ∷ filter p xs) (filter p xs)
      by_test true is rest = ap (λ (b : Bool). cond b (x ∷ filter p (filter p xs)) (filter p (filter p xs))) is ∙ ap (λ (l : List X). x ∷ l) rest
      by_test false is rest = rest

  sum_filtered : (f : X → ℕ) (xs : List X) → sum_by f (filter p xs) ≡ sum_by (λ x. cond (p x) (f x) 0) xs
  sum_filtered f [] = refl
  sum_filtered f (x ∷ xs) = by_test (p x) (sum_filtered f xs) ∙ sym (sum_by-cons (λ x. cond (p x) (f x) 0) x xs)
    where
      by_test : (b : Bool) → sum_by f (filter p xs) ≡ sum_by (λ x. cond (p x) (f x) 0) xs
          → sum_by f (cond b (x ∷ filter p xs) (filter p xs)) ≡ cond b (f x) 0 + sum_by (λ x. cond (p x) (f x) 0) xs
      by_test true rest = sum_by-cons f x (filter p xs) ∙ ap (λ (n : ℕ). f x + n) rest
      by_test false rest = let same = rest in omega (arith, same)

sorted_filtered : (p : List ℕ → Bool) (names : List (List ℕ)) → sorted_names (filter p names) ≡ filter p (sorted_names names)
sorted_filtered p names =
    unique (sorted_names (filter p names)) (filter p (sorted_names names)) (sorted_ordered (filter p names)) (order_left p (sorted_names names) (sorted_ordered names))
    (λ f.
    sum_sorted f (filter p names)
    ∙ sum_filtered p f names
    ∙ sym (sum_sorted (λ x. cond (p x) (f x) 0) names)
    ∙ sym (sum_filtered p f (sorted_names names)))

-- the other names
abbrev not_it : List ℕ → List ℕ → Bool
not_it by name = not (name_eq name by)

abbrev others : List ℕ → List (List ℕ) → List (List ℕ)
others by names = filter (not_it by) names

left_named : (n by : List ℕ) (names : List (List ℕ)) (rows : DomainRows)
    → loaded.named n (after_unused names by rows) ≡ cond (list_any (name_eq n) names) (option_map (left_by by) (loaded.named n rows)) (loaded.named n rows)
left_named n by [] rows = refl
left_named n by (m ∷ names) rows =
    left_named n by names (load.changed m (left_by by) rows)
    ∙ ap (λ (o : Option Domain). cond (list_any (name_eq n) names) (option_map (left_by by) o) o) (changed_named m n (left_by by) rows)
    ∙ by_tests (name_eq m n) (list_any (name_eq n) names) (loaded.named n rows)
    ∙ ap (λ (b : Bool). cond (b || list_any (name_eq n) names) (option_map (left_by by) (loaded.named n rows)) (loaded.named n rows)) (eq_other_way m n)
  where
    by_tests : (a any : Bool) (o : Option Domain)
        → cond any (option_map (left_by by) (cond a (option_map (left_by by) o) o)) (cond a (option_map (left_by by) o) o) ≡ cond (a || any) (option_map (left_by by) o) o
    by_tests true true None = refl
    by_tests true true (Some d) = ap (λ (l : List (List ℕ)). Some (record d { invocations = l })) (filter_twice (not_it by) d.invocations)
    by_tests true false o = refl
    by_tests false true o = refl
    by_tests false false o = refl

-- none behind the first of a name has it
no_other : (by : List ℕ) (q : List ℕ × Invocation → Bool) (rows : Rows) → AllByRecursion (λ name. name_eq by name ≡ false) (keys_of rows) → others by (keys_of (filter q rows)) ≡ keys_of (filter q rows)
no_other by q [] apart = refl
no_other by q (row ∷ rows) apart =
    ap (others by) (keys_first q row rows)
    ∙ by_test (q row) (eq_other_way row.0 by ∙ apart.0) (no_other by q rows apart.1)
    ∙ sym (keys_first q row rows)
  where
    by_test : (b : Bool) → name_eq row.0 by ≡ false → others by (keys_of (filter q rows)) ≡ keys_of (filter q rows)
        → others by (cond b (row.0 ∷ keys_of (filter q rows)) (keys_of (filter q rows))) ≡ cond b (row.0 ∷ keys_of (filter q rows)) (keys_of (filter q rows))
    by_test true other rest =
        ap (λ (b : Bool). cond (not b) (row.0 ∷ others by (keys_of (filter q rows))) (others by (keys_of (filter q rows)))) other ∙ ap (λ (l : List (List ℕ)). row.0 ∷ l) rest
    by_test false other rest = rest

users_removed : (n by : List ℕ) (p : Invocation) (rows : Rows) → IsDistinct name_eq (keys_of rows) → named by rows ≡ Some p
    → users n (remove_entry (name_eq by) rows) ≡ cond (list_any (name_eq n) p.domains) (others by (users n rows)) (users n rows)
unfolding IsDistinct
users_removed n by p [] once e = absurd (cc e)
users_removed n by p (row ∷ rows) once e = by_test (name_eq by row.0) refl e (λ f. users_removed n by p rows once.1 f)
  where
    U : List (List ℕ)
    U = users n rows

    by_tests : (mine its : Bool) → name_eq row.0 by ≡ false
        → cond its (row.0 ∷ cond mine (others by U) U) (cond mine (others by U) U) ≡ cond mine (others by (cond its (row.0 ∷ U) U)) (cond its (row.0 ∷ U) U)
    by_tests true true other = sym (ap (λ (b : Bool). cond (not b) (row.0 ∷ others by U) (others by U)) other)
    by_tests true false other = refl
    by_tests false true other = refl
    by_tests false false other = refl

    mine_goes : (mine : Bool) → name_eq by row.0 ≡ true → U ≡ cond mine (others by (cond mine (row.0 ∷ U) U)) (cond mine (row.0 ∷ U) U)
    mine_goes true is =
        sym (ap (λ (b : Bool). cond (not b) (row.0 ∷ others by U) (others by U)) (eq_other_way row.0 by ∙ is)
        ∙ no_other by (is_of n) rows (subst (λ (k : List ℕ). AllByRecursion (λ name. name_eq k name ≡ false) (keys_of rows)) (sym (names_same by row.0 is)) once.0))
    mine_goes false is = refl

    by_test : (b : Bool) → name_eq by row.0 ≡ b → cond b (Some row.1) (named by rows) ≡ Some p
        → (named by rows ≡ Some p → users n (remove_entry (name_eq by) rows) ≡ cond (list_any (name_eq n) p.domains) (others by U) U)
        → users n (cond b rows (row ∷ remove_entry (name_eq by) rows)) ≡ cond (list_any (name_eq n) p.domains) (others by (users n (row ∷ rows))) (users n (row ∷ rows))
    by_test true is found rest =
        let own : row.1 ≡ p = cc found in
        mine_goes (list_any (name_eq n) p.domains) is
        ∙ ap (λ (l : List (List ℕ)). cond (list_any (name_eq n) p.domains) (others by l) l)
        (ap (λ (i : Invocation). cond (list_any (name_eq n) i.domains) (row.0 ∷ U) U) (sym own) ∙ sym (keys_first (is_of n) row rows))
    by_test false is found rest =
        keys_first (is_of n) row (remove_entry (name_eq by) rows)
        ∙ ap (λ (l : List (List ℕ)). cond (is_of n row) (row.0 ∷ l) l) (rest found)
        ∙ by_tests (list_any (name_eq n) p.domains) (is_of n row) (eq_other_way row.0 by ∙ is)
        ∙ ap (λ (l : List (List ℕ)). cond (list_any (name_eq n) p.domains) (others by l) l) (sym (keys_first (is_of n) row rows))

module _ (domains : DomainRows) (programs : Rows) (used : AreUsed domains programs) (name : List ℕ) (p : Invocation) (found : named name programs ≡ Some p) where
  abbrev had : List ℕ → Bool
  had n = list_any (name_eq n) p.domains

  there_left : (n : List ℕ) → loaded.named n (after_unused p.domains name domains) ≡ cond (had n) (option_map (left_by name) (loaded.named n domains)) (loaded.named n domains)
  there_left n = left_named n name p.domains domains

  users_left : (n : List ℕ) → users_of n (after_delete name programs) ≡ cond (had n) (others name (users_of n programs)) (users_of n programs)
  users_left n = ap sorted_names (users_removed n name p programs used.apart found) ∙ by_test (had n)
    where
      by_test : (b : Bool) → sorted_names (cond b (others name (users n programs)) (users n programs)) ≡ cond b (others name (users_of n programs)) (users_of n programs)
      by_test true = sorted_filtered (not_it name) (users n programs)
      by_test false = refl

  names_left : (n : List ℕ) (d : Domain) (b : Bool) → cond b (option_map (left_by name) (loaded.named n domains)) (loaded.named n domains) ≡ Some d
      → d.invocations ≡ cond b (others name (users_of n programs)) (users_of n programs)
  names_left n d true there =
      let old = mapped (left_by name) (loaded.named n domains) d there in
      ap (λ (x : Domain). x.invocations) (sym old.2) ∙ ap (others name) (used.names n old.0 old.1)
  names_left n d false there = used.names n d there

  live_left : (n : List ℕ) (b : Bool) → (cond b (others name (users_of n programs)) (users_of n programs) ≢ [])
      → option_map_or is_live (cond b (option_map (left_by name) (loaded.named n domains)) (loaded.named n domains)) false ≡ true
  live_left n true some = by_found (loaded.named n domains) (used.live n (λ none. some (ap (others name) none)))
    where
      by_found : (o : Option Domain) → option_map_or is_live o false ≡ true → option_map_or is_live (option_map (left_by name) o) false ≡ true
      by_found None h = absurd (cc h)
      by_found (Some d) h = h
  live_left n false some = used.live n some

  one_left : (n : List ℕ) (d : Domain) (b : Bool) → cond b (option_map (left_by name) (loaded.named n domains)) (loaded.named n domains) ≡ Some d → d.sharable ≡ false
      → length d.invocations ≤ 1
  one_left n d true there alone =
      let old = mapped (left_by name) (loaded.named n domains) d there in
      let few = still_few (not_it name) old.0.invocations 1 (used.one n old.0 old.1 (ap (λ (x : Domain). x.sharable) old.2 ∙ alone)) in
      subst (λ (x : Domain). length x.invocations ≤ 1) old.2 few
  one_left n d false there alone = used.one n d there alone

  pub delete_keeps : AreUsed (after_unused p.domains name domains) (after_delete name programs)
  delete_keeps = record {
    apart = deleted_named name programs used.apart;
    names = λ n d there. names_left n d (had n) (sym (there_left n) ∙ there) ∙ sym (users_left n);
    live = λ n some. ap (λ (o : Option Domain). option_map_or is_live o false) (there_left n) ∙ live_left n (had n) (λ gone. some (users_left n ∙ gone));
    one = λ n d there alone. one_left n d (had n) (sym (there_left n) ∙ there) alone;
  }
