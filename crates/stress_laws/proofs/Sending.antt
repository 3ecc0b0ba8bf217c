-- What all drains of a history take is what its events sent.
use Rattle.std.proofs.Common.{◌≡◌, ◌==◌, ◌⊎◌, inl, inr, ℕ, zero, suc, ◌+◌, ◌≤◌, Bool, true, false, cond, List, [], ◌∷◌, ◌++◌, append-nil, fold, length, map, slice_get, ◌-◌, refl, sym, ap, subst, ◌∙◌, arith}
use Rattle.std.specs.List.{AllByRecursion, count_by}
use Rattle.std.proofs.lemmas.Bool.Decides.{nat_tests}
use Rattle.std.proofs.lemmas.List.Sums.{sum_by-append, sum_by-cons}
use Rattle.mms_types.specs.Actors.{clients_to}
use Rattle.mms_types.specs.declared.event.CellEvent.{CellEvent}
use Rattle.mms_types.specs.declared.event.CellEvent.TheVariants.{Heard, Lost, Tick, Ends, Drain}
use Rattle.mms_types.specs.declared.event.What.{What}
use Rattle.cell_config.specs.declared.config.Config.{Config}
use Rattle.cell_record.specs.History.{drains as drains_of, history}
use Rattle.cell_record.specs.Report.{taken}
use Rattle.cell_stress.specs.Counts.{is_pdu, pdus_in, replies_from}
use Rattle.association.specs.Client.{new_row}
use Rattle.step_parts.specs.State.{State, device_of, first_rows, start}
use Rattle.step_parts.specs.Step.{outbox_in, outbox_of, replay, said, step}
use Rattle.step_parts.proofs.PartsAfter.{length-start, step_sized}
use Rattle.cell_laws.specs.Tally.{drains, sent_to, told_in}
use Rattle.cell_laws.proofs.Bound.{nat-same, nat-test}
use Rattle.cell_laws.proofs.Sent.{is_emptied, is_sent}

-- ---- sums over clients

-- as much as of each of these clients
abbrev pub over : (ℕ → ℕ) → List ℕ → ℕ
over f [] = 0
over f (c ∷ cs) = f c + over f cs

-- the PDUs that are to be sent to a client
abbrev pub pdus_for : State → ℕ → ℕ
pdus_for s client = count_by is_pdu (outbox_of s client)

-- the PDUs that an event sends to a client
abbrev pub pdus_to : State → CellEvent → ℕ → ℕ
pdus_to s event client = count_by is_pdu (sent_to client s.clients (told_in s event))

-- the PDUs that events, one after the other, send to these clients
abbrev pub pdus_along : List ℕ → State → List CellEvent → ℕ
pdus_along cs s [] = 0
pdus_along cs s (event ∷ rest) = over (pdus_to s event) cs + pdus_along cs (step s event) rest

-- clients 1 to n at most
abbrev pub AreClients : ℕ → List ℕ → Type 0
AreClients n cs = AllByRecursion (λ c. (1 ≤ c) × (c ≤ n)) cs

-- a client isn't among these
abbrev IsApart : ℕ → List ℕ → Type 0
IsApart c cs = AllByRecursion (λ d. (d == c) ≡ false) cs

abbrev AreDistinct : List ℕ → Type 0
AreDistinct [] = Unit {0}
AreDistinct (c ∷ cs) = IsApart c cs × AreDistinct cs

over-same : (n : ℕ) (f g : ℕ → ℕ) → ((c : ℕ) → 1 ≤ c → c ≤ n → f c ≡ g c) → (cs : List ℕ) → AreClients n cs → over f cs ≡ over g cs
over-same n f g each [] are = refl
over-same n f g each (c ∷ cs) are = let one = each c are.0.0 are.0.1 in let rest = over-same n f g each cs are.1 in omega (arith, one, rest)

over-both : (n : ℕ) (f g h : ℕ → ℕ) → ((c : ℕ) → 1 ≤ c → c ≤ n → f c ≡ g c + h c) → (cs : List ℕ) → AreClients n cs → over f cs ≡ over g cs + over h cs
over-both n f g h each [] are = refl
over-both n f g h each (c ∷ cs) are = let one = each c are.0.0 are.0.1 in let rest = over-both n f g h each cs are.1 in omega (arith, one, rest)

over-none : (n : ℕ) (f : ℕ → ℕ) → ((c : ℕ) → 1 ≤ c → c ≤ n → f c ≡ 0) → (cs : List ℕ) → AreClients n cs → over f cs ≡ 0
over-none n f each [] are = refl
over-none n f each (c ∷ cs) are = let one = each c are.0.0 are.0.1 in let rest = over-none n f each cs are.1 in omega (arith, one, rest)

-- ---- clients 1 to n

one-more : (P : ℕ → Type 0) (cs : List ℕ) (d : ℕ) → AllByRecursion P cs → P d → AllByRecursion P (cs ++ d ∷ [])
one-more P [] d all last = (last, tt)
one-more P (c ∷ cs) d all last = (all.0, one-more P cs d all.1 last)

all-more : (P Q : ℕ → Type 0) → ((c : ℕ) → P c → Q c) → (cs : List ℕ) → AllByRecursion P cs → AllByRecursion Q cs
all-more P Q f [] all = tt
all-more P Q f (c ∷ cs) all = (f c all.0, all-more P Q f cs all.1)

pub clients_are : (n : ℕ) → AreClients n (clients_to n)
clients_are zero = tt
clients_are (suc n) =
    one-more (λ c. (1 ≤ c) × (c ≤ suc n)) (clients_to n) (suc n)
    (all-more (λ c. (1 ≤ c) × (c ≤ n)) (λ c. (1 ≤ c) × (c ≤ suc n)) (λ c is. (is.0, omega (arith, is.1))) (clients_to n) (clients_are n)) (omega arith, omega arith)

larger-apart : (c d : ℕ) → c ≤ d → (suc d == c) ≡ false
larger-apart c d le = by_test (suc d == c) refl
  where
    by_test : (b : Bool) → (suc d == c) ≡ b → b ≡ false
    by_test true e = absurd (let same = nat-same (suc d) c e in omega (arith, same, le))
    by_test false e = refl

distinct-more : (n : ℕ) (cs : List ℕ) → AreClients n cs → AreDistinct cs → AreDistinct (cs ++ suc n ∷ [])
distinct-more n [] are distinct = (tt, tt)
distinct-more n (c ∷ cs) are distinct =
    (one-more (λ d. (d == c) ≡ false) cs (suc n) distinct.0 (larger-apart c n are.0.1), distinct-more n cs are.1 distinct.1)

clients_distinct : (n : ℕ) → AreDistinct (clients_to n)
clients_distinct zero = tt
clients_distinct (suc n) = distinct-more n (clients_to n) (clients_are n) (clients_distinct n)

-- ---- histories

pub fold-append : {A B : Type 0} (f : A → B → A) (a : A) (xs ys : List B) → fold f a (xs ++ ys) ≡ fold f (fold f a xs) ys
fold-append f a [] ys = refl
fold-append f a (x ∷ xs) ys = fold-append f (f a x) xs ys

pub sized-along : (s : State) (events : List CellEvent) → length (fold step s events).clients ≡ length s.clients
sized-along s [] = refl
sized-along s (event ∷ rest) = sized-along (step s event) rest ∙ step_sized s event

pub along-append : (cs : List ℕ) (s : State) (xs ys : List CellEvent) → pdus_along cs s (xs ++ ys) ≡ pdus_along cs s xs + pdus_along cs (fold step s xs) ys
along-append cs s [] ys = omega arith
along-append cs s (x ∷ xs) ys = let rest = along-append cs (step s x) xs ys in omega (arith, rest)

-- ---- events that are no drains

-- an event that is no drain
abbrev pub IsNoDrain : CellEvent → Type 0
IsNoDrain (Heard client octets) = Unit {0}
IsNoDrain (Lost client) = Unit {0}
IsNoDrain (Tick ms) = Unit {0}
IsNoDrain (Ends name) = Unit {0}
IsNoDrain (Drain client) = ⊥

no-drain : (event : CellEvent) (client : ℕ) → IsNoDrain event → drains client event ≡ false
no-drain (Heard other octets) client is = refl
no-drain (Lost other) client is = refl
no-drain (Tick ms) client is = refl
no-drain (Ends name) client is = refl
no-drain (Drain other) client is = absurd is

count-append : (xs ys : List What) → count_by is_pdu (xs ++ ys) ≡ count_by is_pdu xs + count_by is_pdu ys
count-append xs ys = sum_by-append (λ e. cond (is_pdu e) 1 0) xs ys

gains : (s : State) (event : CellEvent) (c : ℕ) → IsNoDrain event → 1 ≤ c → c ≤ length s.clients → pdus_for (step s event) c ≡ pdus_for s c + pdus_to s event c
gains s event c is some few =
    ap (λ (l : List What). count_by is_pdu l) (is_sent s event c some few (no-drain event c is)) ∙ count-append (outbox_of s c) (sent_to c s.clients (told_in s event))

-- what is to be sent behind events is what was before, and what they sent
body_gains : (cs : List ℕ) (s : State) (body : List CellEvent) → AreClients (length s.clients) cs → AllByRecursion IsNoDrain body
    → over (pdus_for (fold step s body)) cs ≡ over (pdus_for s) cs + pdus_along cs s body
body_gains cs s [] are none = omega arith
body_gains cs s (event ∷ rest) are none =
    let one = over-both (length s.clients) (pdus_for (step s event)) (pdus_for s) (pdus_to s event) (λ c some few. gains s event c none.0 some few) cs are in
    let more = body_gains cs (step s event) rest (subst (λ (n : ℕ). AreClients n cs) (sym (step_sized s event)) are) none.1 in
    omega (arith, one, more)

-- ---- drains

drain-sends : (s : State) (d c : ℕ) → sent_to c s.clients (told_in s (Drain d)) ≡ []
drain-sends s d c = by_test (c == d)
  where
    by_test : (b : Bool) → cond {A = List What} b [] [] ++ [] ≡ []
    by_test true = refl
    by_test false = refl

-- a drain leaves what is to be sent to others
drain-leaves : (s : State) (d c : ℕ) → 1 ≤ c → c ≤ length s.clients → (c == d) ≡ false → outbox_of (step s (Drain d)) c ≡ outbox_of s c
drain-leaves s d c some few other =
    is_sent s (Drain d) c some few other ∙ ap (λ (l : List What). outbox_of s c ++ l) (drain-sends s d c) ∙ append-nil (outbox_of s c)

pub drains_send : (cs : List ℕ) (s : State) (ds : List ℕ) → AreClients (length s.clients) cs → pdus_along cs s (drains_of ds) ≡ 0
drains_send cs s [] are = refl
drains_send cs s (d ∷ ds) are =
    let one = over-none (length s.clients) (pdus_to s (Drain d)) (λ c some few. ap (λ (l : List What). count_by is_pdu l) (drain-sends s d c)) cs are in
    let rest = drains_send cs (step s (Drain d)) ds (subst (λ (n : ℕ). AreClients n cs) (sym (step_sized s (Drain d))) are) in
    omega (arith, one, rest)

over-apart : (s : State) (d : ℕ) (cs : List ℕ) → AreClients (length s.clients) cs → IsApart d cs → over (pdus_for (step s (Drain d))) cs ≡ over (pdus_for s) cs
over-apart s d [] are apart = refl
over-apart s d (c ∷ cs) are apart =
    let one = ap (λ (l : List What). count_by is_pdu l) (drain-leaves s d c are.0.0 are.0.1 apart.0) in
    let rest = over-apart s d cs are.1 apart.1 in
    omega (arith, one, rest)

-- drains of distinct clients take all that is to be sent to them
drains_take : (config : Config) (before : List CellEvent) (s : State) (cs : List ℕ) → replay config before ≡ s → AreClients (length s.clients) cs → AreDistinct cs
    → pdus_in (taken (said config) before cs) ≡ over (pdus_for s) cs
drains_take config before s [] is are distinct = refl
drains_take config before s (c ∷ cs) is are distinct =
    let first = ap (λ (x : State). pdus_for x c) is in
    let rest =
    drains_take config (before ++ Drain c ∷ []) (step s (Drain c)) cs
    (fold-append step (start config) before (Drain c ∷ []) ∙ ap (λ (x : State). step x (Drain c)) is)
    (subst (λ (n : ℕ). AreClients n cs) (sym (step_sized s (Drain c))) are.1) distinct.1 in
    let same = over-apart s c cs are.1 distinct.0 in
    let one = sum_by-cons (λ sent. count_by is_pdu sent) (said config before c) (taken (said config) (before ++ Drain c ∷ []) cs) in
    omega (arith, first, rest, same, one)

-- ---- behind drains nothing is to be sent

abbrev IsIn : ℕ → List ℕ → Type 0
IsIn c [] = ⊥
IsIn c (d ∷ ds) = (c ≡ d) ⊎ IsIn c ds

in-more : (c d : ℕ) (ds : List ℕ) → (c ≡ d) ⊎ IsIn c ds → IsIn c (ds ++ d ∷ [])
in-more c d [] (inl same) = inl same
in-more c d [] (inr there) = absurd there
in-more c d (x ∷ ds) (inl same) = inr (in-more c d ds (inl same))
in-more c d (x ∷ ds) (inr (inl same)) = inl same
in-more c d (x ∷ ds) (inr (inr there)) = inr (in-more c d ds (inr there))

smaller : (c n : ℕ) → c ≤ suc n → (c == suc n) ≡ false → c ≤ n
smaller c n le other = grind (arith, nat_tests)

pub smaller_than : (c n : ℕ) → c ≤ suc n → (suc n == c) ≡ false → c ≤ n
smaller_than c n le other = grind (arith, nat_tests)

in-clients : (c n : ℕ) → 1 ≤ c → c ≤ n → IsIn c (clients_to n)
in-clients c zero some few = absurd (omega (arith, some, few))
in-clients c (suc n) some few = in-more c (suc n) (clients_to n) (by_test (c == suc n) refl (λ fewer. in-clients c n some fewer))
  where
    by_test : (b : Bool) → (c == suc n) ≡ b → (c ≤ n → IsIn c (clients_to n)) → (c ≡ suc n) ⊎ IsIn c (clients_to n)
    by_test true e rest = inl (nat-same c (suc n) e)
    by_test false e rest = inr (rest (smaller c n few e))

taken_away : (ds : List ℕ) (s : State) (c : ℕ) → 1 ≤ c → c ≤ length s.clients → (outbox_of s c ≡ []) ⊎ IsIn c ds → outbox_of (fold step s (drains_of ds)) c ≡ []
taken_away [] s c some few (inl none) = none
taken_away [] s c some few (inr there) = absurd there
taken_away (d ∷ ds) s c some few h = taken_away ds (step s (Drain d)) c some (let sized = step_sized s (Drain d) in omega (arith, sized, few)) (by_test (c == d) refl h)
  where
    by_test : (b : Bool) → (c == d) ≡ b → (outbox_of s c ≡ []) ⊎ IsIn c (d ∷ ds) → (outbox_of (step s (Drain d)) c ≡ []) ⊎ IsIn c ds
    by_test true e h = inl (subst (λ (x : ℕ). outbox_of (step s (Drain x)) c ≡ []) (nat-same c d e) (is_emptied s c some))
    by_test false e (inl none) = inl (drain-leaves s d c some few e ∙ none)
    by_test false e (inr (inl same)) = absurd (let yes = nat-test c d same in let both : true ≡ false = sym yes ∙ e in cc both)
    by_test false e (inr (inr there)) = inr there

-- nothing is to be sent to a client
abbrev pub IsEmptied : State → Type 0
IsEmptied s = (c : ℕ) → 1 ≤ c → c ≤ length s.clients → outbox_of s c ≡ []

behind_drains : (n : ℕ) (s : State) → length s.clients ≡ n → IsEmptied (fold step s (drains_of (clients_to n)))
behind_drains n s many c some few =
    let fewer : c ≤ length s.clients = let sized = sized-along s (drains_of (clients_to n)) in omega (arith, sized, few) in
    taken_away (clients_to n) s c some fewer (inr (in-clients c n some (omega (arith, many, fewer))))

-- ---- all bodies

-- What all drains take is what all events sent.
all_taken : (config : Config) (n : ℕ) (bodies : List (List CellEvent)) (before : List CellEvent) (s : State) → replay config before ≡ s → length s.clients ≡ n → IsEmptied s
    → AllByRecursion (AllByRecursion IsNoDrain) bodies → replies_from (said config) n before bodies ≡ pdus_along (clients_to n) s (history n bodies)
all_taken config n [] before s is many none quiet = refl
all_taken config n (body ∷ rest) before s is many none quiet =
    let take = drains_take config (before ++ body) (fold step s body) cs (moved body) are_after (clients_distinct n) in
    let gain = body_gains cs s body are quiet.0 in
    let zero_before = over-none (length s.clients) (pdus_for s) (λ c some few. ap (λ (l : List What). count_by is_pdu l) (none c some few)) cs are in
    let drained = drains_send cs (fold step s body) cs are_after in
    let more =
    all_taken config n rest (before ++ (body ++ drains_of cs)) (fold step s (body ++ drains_of cs)) (moved (body ++ drains_of cs))
    (sized-along s (body ++ drains_of cs) ∙ many)
    (subst IsEmptied (sym (fold-append step s body (drains_of cs))) (behind_drains n (fold step s body) (sized-along s body ∙ many))) quiet.1 in
    let cut = along-append cs s (body ++ drains_of cs) (history n rest) in
    let cut_body = along-append cs s body (drains_of cs) in
    omega (arith, take, gain, zero_before, drained, more, cut, cut_body, one)
  where
    cs : List ℕ
    cs = clients_to n

    are : AreClients (length s.clients) cs
    are = subst (λ (m : ℕ). AreClients m cs) (sym many) (clients_are n)

    are_after : AreClients (length (fold step s body).clients) cs
    are_after = subst (λ (m : ℕ). AreClients m cs) (sym (sized-along s body ∙ many)) (clients_are n)

    moved : (events : List CellEvent) → replay config (before ++ events) ≡ fold step s events
    moved events = fold-append step (start config) before events ∙ ap (λ (x : State). fold step x events) is

    one : replies_from (said config) n before (body ∷ rest)
        ≡ pdus_in (taken (said config) (before ++ body) cs) + replies_from (said config) n (before ++ (body ++ drains_of cs)) rest
    one = refl

first_rows-empty : (config : Config) (n c : ℕ) → outbox_in (slice_get (first_rows config n) c) ≡ []
first_rows-empty config n c = mapped (clients_to n) c
  where
    mapped : (xs : List ℕ) (k : ℕ) → outbox_in (slice_get (map (λ i. new_row i (device_of config)) xs) k) ≡ []
    mapped [] k = refl
    mapped (x ∷ xs) zero = refl
    mapped (x ∷ xs) (suc k) = mapped xs k

-- What the report counts as replies is what the events of the history send, from the start on.
pub replies_sent : (config : Config) (bodies : List (List CellEvent)) → AllByRecursion (AllByRecursion IsNoDrain) bodies
    → replies_from (said config) config.clients [] bodies ≡ pdus_along (clients_to config.clients) (start config) (history config.clients bodies)
replies_sent config bodies quiet =
    all_taken config config.clients bodies [] (start config) refl (length-start config) (λ c some few. first_rows-empty config config.clients (c - 1)) quiet
