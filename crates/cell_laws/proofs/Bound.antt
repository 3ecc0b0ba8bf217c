-- Requests that wait and entries that are queued, each under its names.
use Rattle.std.proofs.Common.{◌≡◌, ℕ, Bool, true, false, cond, ◌==◌, ◌&&◌, Option, None, Some, refl, sym, ◌∙◌, ap, subst, arith}
use Rattle.std.proofs.lemmas.Bool.Decides.{nat_tests}
use Rattle.mms_types.specs.Order.{key_eq, scope_eq}
use Rattle.mms_types.specs.declared.key.Key.{Key}
use Rattle.mms_types.specs.declared.key.Scope.TheVariants.{Association}
use Rattle.mms_types.proofs.Precedence.{key_eq_tells}
use Rattle.association.specs.declared.waiting.Waiting.{Waiting}

-- the request of a client and an invokeID, and the entry of a semaphore and a number
abbrev pub request_of : ℕ → Key → ℕ → Waiting
request_of i k n = record { invoke = i; key = k; entry = n }

-- q tells whose request an entry is that is queued, and f the request of a client and an invokeID that waits
pub record Bound (q : Key → ℕ → Option (ℕ × ℕ)) (f : ℕ → ℕ → Option Waiting) : Type 0 where
  pub queued : (c i : ℕ) (r : Waiting) → f c i ≡ Some r → q r.key r.entry ≡ Some (c, i)
  pub waiting : (k : Key) (n c i : ℕ) → q k n ≡ Some (c, i) → f c i ≡ Some (request_of i k n)
  -- a name of an association is given by its client alone
  pub own : (k : Key) (n c i d : ℕ) → q k n ≡ Some (c, i) → scope_eq k.scope (Association d) ≡ true → c ≡ d

-- ---- some requests less

abbrev pub less : (ℕ → ℕ → Bool) → Option (ℕ × ℕ) → Option (ℕ × ℕ)
less r None = None
less r (Some a) = cond (r a.0 a.1) None (Some a)

pub less-some : (r : ℕ → ℕ → Bool) (o : Option (ℕ × ℕ)) (c i : ℕ) → less r o ≡ Some (c, i) → (o ≡ Some (c, i)) × (r c i ≡ false)
less-some r None c i h = absurd (cc h)
less-some r (Some a) c i h = by_test (r a.0 a.1) refl h
  where
    by_test : (b : Bool) → r a.0 a.1 ≡ b → cond b None (Some a) ≡ Some (c, i) → (Some a ≡ Some (c, i)) × (r c i ≡ false)
    by_test true e g = absurd (cc g)
    by_test false e g = let same : a ≡ (c, i) = cc g in (g, subst (λ (p : ℕ × ℕ). r p.0 p.1 ≡ false) same e)

pub cond-some : {A : Type 0} (b : Bool) (o : Option A) (x : A) → cond b None o ≡ Some x → (o ≡ Some x) × (b ≡ false)
cond-some true o x h = absurd (cc h)
cond-some false o x h = (h, refl)

pub bound-less : (r : ℕ → ℕ → Bool) (q p : Key → ℕ → Option (ℕ × ℕ)) (f g : ℕ → ℕ → Option Waiting) → Bound q f
    → ((k : Key) (n : ℕ) → p k n ≡ less r (q k n)) → ((c i : ℕ) → g c i ≡ cond (r c i) None (f c i)) → Bound p g
bound-less r q p f g bound left_q left_f = record {
  queued = λ c i w h.
      let was = cond-some (r c i) (f c i) w (sym (left_f c i) ∙ h) in
      left_q w.key w.entry ∙ ap (less r) (bound.queued c i w was.0) ∙ ap (λ t. cond t None (Some (c, i))) was.1;
  waiting = λ k n c i h.
      let was = less-some r (q k n) c i (sym (left_q k n) ∙ h) in
      left_f c i ∙ ap (λ t. cond t None (f c i)) was.1 ∙ bound.waiting k n c i was.0;
  own = λ k n c i d h of. bound.own k n c i d (less-some r (q k n) c i (sym (left_q k n) ∙ h)).0 of;
}

less-none : (o : Option (ℕ × ℕ)) → less (λ c i. false) o ≡ o
less-none None = refl
less-none (Some a) = refl

pub bound-same : (q p : Key → ℕ → Option (ℕ × ℕ)) (f g : ℕ → ℕ → Option Waiting) → Bound q f
    → ((k : Key) (n : ℕ) → p k n ≡ q k n) → ((c i : ℕ) → g c i ≡ f c i) → Bound p g
bound-same q p f g bound same_q same_f = bound-less (λ c i. false) q p f g bound (λ k n. same_q k n ∙ sym (less-none (q k n))) same_f

-- two tests that tell the same
pub tests-same : (a b : Bool) → (a ≡ true → b ≡ true) → (b ≡ true → a ≡ true) → a ≡ b
tests-same true true there back = refl
tests-same false false there back = refl
tests-same true false there back = sym (there refl)
tests-same false true there back = back refl

pub both-true : (a b : Bool) → a ≡ true → b ≡ true → a && b ≡ true
both-true a b h k = ap (λ t. t && b) h ∙ k

pub of-both : (a b : Bool) → a && b ≡ true → (a ≡ true) × (b ≡ true)
of-both true true h = (refl, refl)
of-both true false h = absurd (cc h)
of-both false b h = absurd (cc h)

pub nat-same : (a b : ℕ) → (a == b) ≡ true → a ≡ b
nat-same a b h = grind (arith, nat_tests)

pub nat-test : (a b : ℕ) → a ≡ b → (a == b) ≡ true
nat-test a b h = grind (arith, nat_tests)

pub key-same : (a b : Key) → key_eq a b ≡ true → a ≡ b
key-same a b h = (key_eq_tells a b).0 h

pub key-test : (a b : Key) → a ≡ b → key_eq a b ≡ true
key-test a b h = (key_eq_tells a b).1 h

module _ (q : Key → ℕ → Option (ℕ × ℕ)) (f : ℕ → ℕ → Option Waiting) (bound : Bound q f) where
  -- a client has one entry for an invokeID
  pub one_entry : (k l : Key) (n m c i : ℕ) → q k n ≡ Some (c, i) → q l m ≡ Some (c, i) → (k ≡ l) × (n ≡ m)
  one_entry k l n m c i h j =
      let same : request_of i k n ≡ request_of i l m = cc (sym (bound.waiting k n c i h) ∙ bound.waiting l m c i j) in
      (ap (λ (w : Waiting). w.key) same, ap (λ (w : Waiting). w.entry) same)

  -- one entry is queued no more, and its request waits no more
  pub bound-drop : (p : Key → ℕ → Option (ℕ × ℕ)) (g : ℕ → ℕ → Option Waiting) (key : Key) (number client invoke : ℕ) → q key number ≡ Some (client, invoke)
      → ((k : Key) (n : ℕ) → p k n ≡ cond (key_eq k key && n == number) None (q k n)) → ((c i : ℕ) → g c i ≡ cond (c == client && i == invoke) None (f c i)) → Bound p g
  bound-drop p g key number client invoke is left_q left_f = bound-less (λ c i. c == client && i == invoke) q p f g bound (λ k n. left_q k n ∙ by_asker k n (q k n) refl) left_f
    where
      there : (k : Key) (n : ℕ) (a : ℕ × ℕ) → q k n ≡ Some a → (key_eq k key && n == number) ≡ true → (a.0 == client && a.1 == invoke) ≡ true
      there k n a h t =
          let tests = of-both (key_eq k key) (n == number) t in
          let same : a ≡ (client, invoke) = cc (sym h ∙ ap (λ (x : Key). q x n) (key-same k key tests.0) ∙ ap (q key) (nat-same n number tests.1) ∙ is) in
          both-true (a.0 == client) (a.1 == invoke) (nat-test a.0 client (ap (λ (x : ℕ × ℕ). x.0) same)) (nat-test a.1 invoke (ap (λ (x : ℕ × ℕ). x.1) same))

      back : (k : Key) (n : ℕ) (a : ℕ × ℕ) → q k n ≡ Some a → (a.0 == client && a.1 == invoke) ≡ true → (key_eq k key && n == number) ≡ true
      back k n a h t =
          let tests = of-both (a.0 == client) (a.1 == invoke) t in
          let mine : q key number ≡ Some (a.0, a.1) =
          is ∙ ap (λ (x : ℕ). Some (x, invoke)) (sym (nat-same a.0 client tests.0)) ∙ ap (λ (x : ℕ). Some (a.0, x)) (sym (nat-same a.1 invoke tests.1)) in
          let same = one_entry k key n number a.0 a.1 h mine in
          both-true (key_eq k key) (n == number) (key-test k key same.0) (nat-test n number same.1)

      by_asker : (k : Key) (n : ℕ) (o : Option (ℕ × ℕ)) → q k n ≡ o → cond (key_eq k key && n == number) None o ≡ less (λ c i. c == client && i == invoke) o
      by_asker k n None h = both-none (key_eq k key && n == number)
        where
          both-none : (b : Bool) → cond {A = Option (ℕ × ℕ)} b None None ≡ None
          both-none true = refl
          both-none false = refl
      by_asker k n (Some a) h =
          ap (λ t. cond t None (Some a)) (tests-same (key_eq k key && n == number) (a.0 == client && a.1 == invoke) (there k n a h) (back k n a h))

  -- one more is queued, and its request waits
  pub bound-more : (p : Key → ℕ → Option (ℕ × ℕ)) (g : ℕ → ℕ → Option Waiting) (key : Key) (number client invoke : ℕ) → q key number ≡ None → f client invoke ≡ None
      → ((d : ℕ) → scope_eq key.scope (Association d) ≡ true → client ≡ d)
      → ((k : Key) (n : ℕ) → p k n ≡ cond (key_eq k key && n == number) (Some (client, invoke)) (q k n))
      → ((c i : ℕ) → g c i ≡ cond (c == client && i == invoke) (Some (request_of invoke key number)) (f c i)) → Bound p g
  bound-more p g key number client invoke new_q new_f of more_q more_f = record {
    queued = λ c i w h. by_client c i w (c == client && i == invoke) refl (sym (more_f c i) ∙ h);
    waiting = λ k n c i h. by_entry k n c i (key_eq k key && n == number) refl (sym (more_q k n) ∙ h);
    own = λ k n c i d h is. by_own k n c i d (key_eq k key && n == number) refl (sym (more_q k n) ∙ h) is;
  }
    where
      by_client : (c i : ℕ) (w : Waiting) (b : Bool) → (c == client && i == invoke) ≡ b → cond b (Some (request_of invoke key number)) (f c i) ≡ Some w
          → p w.key w.entry ≡ Some (c, i)
      by_client c i w true t h =
          let same : request_of invoke key number ≡ w = cc h in
          let tests = of-both (c == client) (i == invoke) t in
          let here : (key_eq w.key key && w.entry == number) ≡ true =
          both-true (key_eq w.key key) (w.entry == number) (key-test w.key key (ap (λ (x : Waiting). x.key) (sym same))) (nat-test w.entry number (ap (λ (x : Waiting). x.entry) (sym same))) in
          more_q w.key w.entry ∙ ap (λ t. cond t (Some (client, invoke)) (q w.key w.entry)) here
          ∙ ap (λ (x : ℕ). Some (x, invoke)) (sym (nat-same c client tests.0)) ∙ ap (λ (x : ℕ). Some (c, x)) (sym (nat-same i invoke tests.1))
      by_client c i w false t h = more_q w.key w.entry ∙ by_test (key_eq w.key key && w.entry == number) refl
        where
          was : q w.key w.entry ≡ Some (c, i)
          was = bound.queued c i w h

          by_test : (b : Bool) → (key_eq w.key key && w.entry == number) ≡ b → cond b (Some (client, invoke)) (q w.key w.entry) ≡ Some (c, i)
          by_test true e =
              let tests = of-both (key_eq w.key key) (w.entry == number) e in
              absurd (cc (sym was ∙ ap (λ (x : Key). q x w.entry) (key-same w.key key tests.0) ∙ ap (q key) (nat-same w.entry number tests.1) ∙ new_q))
          by_test false e = was

      by_entry : (k : Key) (n c i : ℕ) (b : Bool) → (key_eq k key && n == number) ≡ b → cond b (Some (client, invoke)) (q k n) ≡ Some (c, i) → g c i ≡ Some (request_of i k n)
      by_entry k n c i true t h =
          let same : (client, invoke) ≡ (c, i) = cc h in
          let tests = of-both (key_eq k key) (n == number) t in
          let a : c ≡ client = ap (λ (x : ℕ × ℕ). x.0) (sym same) in
          let b : i ≡ invoke = ap (λ (x : ℕ × ℕ). x.1) (sym same) in
          let here : (c == client && i == invoke) ≡ true = both-true (c == client) (i == invoke) (nat-test c client a) (nat-test i invoke b) in
          more_f c i ∙ ap (λ t. cond t (Some (request_of invoke key number)) (f c i)) here
          ∙ ap (λ (x : ℕ). Some (request_of x key number)) (sym b) ∙ ap (λ (x : Key). Some (request_of i x number)) (sym (key-same k key tests.0))
          ∙ ap (λ (x : ℕ). Some (request_of i k x)) (sym (nat-same n number tests.1))
      by_entry k n c i false t h = more_f c i ∙ by_test (c == client && i == invoke) refl
        where
          was : f c i ≡ Some (request_of i k n)
          was = bound.waiting k n c i h

          by_test : (b : Bool) → (c == client && i == invoke) ≡ b → cond b (Some (request_of invoke key number)) (f c i) ≡ Some (request_of i k n)
          by_test true e =
              let tests = of-both (c == client) (i == invoke) e in
              absurd (cc (sym was ∙ ap (λ (x : ℕ). f x i) (nat-same c client tests.0) ∙ ap (f client) (nat-same i invoke tests.1) ∙ new_f))
          by_test false e = was

      by_own : (k : Key) (n c i d : ℕ) (b : Bool) → (key_eq k key && n == number) ≡ b → cond b (Some (client, invoke)) (q k n) ≡ Some (c, i) → scope_eq k.scope (Association d) ≡ true → c ≡ d
      by_own k n c i d true t h is =
          let same : (client, invoke) ≡ (c, i) = cc h in
          let tests = of-both (key_eq k key) (n == number) t in
          ap (λ (x : ℕ × ℕ). x.0) (sym same) ∙ of d (subst (λ (x : Key). scope_eq x.scope (Association d) ≡ true) (key-same k key tests.0) is)
      by_own k n c i d false t h is = bound.own k n c i d h is
