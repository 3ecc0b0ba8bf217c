-- Areas of a device (this profile's choice). An area has a table of its own, or some. It serves requests by what it has and by facts, which the tables of other areas tell.
use Rattle.std.specs.Prelude.{◌≡◌, ℕ, true, false, Option, List, [], ◌∷◌, ◌++◌, slice_get}
use Rattle.std.specs.List.{flat_map}
use Rattle.part_table.specs.Held.{held_at}
use Rattle.parted_state.specs.Cut.{is_in}
use Rattle.parted_state.specs.Served.{Done, Device, Services, change, masked, done_within}

-- the tables A of an area among all tables T: their numbers, what they are, and all tables with others in their places
pub record Own (T A : Type 0) : Type 0 where
  pub numbers : List ℕ
  pub of : T → A
  pub put : A → T → T

-- a request may change no table
abbrev pub no_table : {T : Type 0} → Own T (Unit {0})
no_table = record { numbers = []; of = λ t. tt; put = λ new t. t }

-- or the tables of two areas
abbrev pub both : {T A B : Type 0} → Own T A → Own T B → Own T (A × B)
both own other = record {
  numbers = own.numbers ++ other.numbers;
  of = λ t. (own.of t, other.of t);
  put = λ new t. own.put new.0 (other.put new.1 t);
}

-- What tables tell areas that aren't theirs: facts X, answers to questions K. A question is for some tables, often one, and for none where its words answer it. A
-- fact that nobody asks for is as `nothing` has it, which is the answer that refuses.
pub record Tells (T K X : Type 0) : Type 0 where
  pub nothing : X
  -- the tables that a question is for
  pub tables : K → List ℕ
  -- facts, with its answer noted among them
  pub noted : K → T → X → X

-- What an area does for a request Q of someone W: what the words of the request ask other tables, what its own tables show to be asked besides, and what it does with
-- its own tables by the facts that these tell.
pub record Area (A W F Q K X : Type 0) : Type 0 where
  pub words : W → Q → List K
  pub more : A → W → Q → List K
  pub serves : X → A → W → Q → Done A F

-- what a request uses and does: the tables that its words tell, those that these tables show, and what it does with all tables
pub record Plan (T F : Type 0) : Type 0 where
  pub asks : List ℕ
  pub more : T → List ℕ
  pub does : T → Done T F

-- ---- a request in an area

-- the facts that answer some questions
abbrev pub facts_told : {T K X : Type 0} → Tells T K X → List K → T → X
facts_told tells [] t = tells.nothing
facts_told tells (k ∷ ks) t = tells.noted k t (facts_told tells ks t)

module _ {T A W F Q K X : Type 0} (own : Own T A) (tells : Tells T K X) (area : Area A W F Q K X) where
  -- all that is asked for a request
  abbrev pub questions : W → Q → T → List K
  questions who asked t = area.words who asked ++ area.more (own.of t) who asked

  abbrev pub facts_of : W → Q → T → X
  facts_of who asked t = facts_told tells (questions who asked t) t

  -- what the area does, among all tables
  abbrev pub among : Done A F → T → Done T F
  among done t = record { tables = own.put done.tables t; told = done.told }

  abbrev pub area_plan : W → Q → Plan T F
  area_plan who asked = record {
    asks = own.numbers ++ flat_map tells.tables (area.words who asked);
    more = λ t. flat_map tells.tables (area.more (own.of t) who asked);
    does = λ t. among (area.serves (facts_of who asked t) (own.of t) who asked) t;
  }

-- ---- events that are requests, of whichever areas

-- the services of a device each of whose events is one client's and has a plan
abbrev pub planned : {T R F E : Type 0} → (E → ℕ) → (R → E → Plan T F) → Services T R F E
planned own plan = record {
  own = own;
  words = λ event. [];
  asks = λ event. (λ t row. (plan row event).asks) ∷ (λ t row. (plan row event).more t) ∷ [];
  serves = λ t row event. (plan row event).does t;
}

-- ---- what is to be shown, once for each area and once for each question

module _ {S T R F P : Type 0} (d : Device S T R F P) where
  -- what becomes of all tables is told by these, and the others stay
  pub record Within (us : List ℕ) (becomes : T → T) (t : T) : Type 0 where
    pub alone : becomes (masked d us t) ≡ masked d us (becomes t)
    pub in_order : d.InOrder (becomes t)
    pub others : (k : ℕ) → is_in us k ≡ false → slice_get (d.table_parts (becomes t)) k ≡ slice_get (d.table_parts t) k

  abbrev pub AllIn : List ℕ → List ℕ → Type 0
  AllIn us all = (k : ℕ) → is_in us k ≡ true → is_in all k ≡ true

  -- an area's tables are told by those with their numbers, and put among them
  pub record IsOwn {A : Type 0} (own : Own T A) : Type 0 where
    pub same : (us : List ℕ) (t : T) → d.InOrder t → AllIn own.numbers us → own.of (masked d us t) ≡ own.of t
    pub within : (new : A) (us : List ℕ) (t : T) → d.InOrder t → AllIn own.numbers us → Within us (own.put new) t

  -- so it is with one table that has a part, by computing
  pub record IsTable {A : Type 0} (own : Own T A) : Type 0 where
    pub number : ℕ
    pub part : A → P
    pub part_in : Option P → A
    pub one : own.numbers ≡ number ∷ []
    pub shown : (hand : List (Option P)) → own.of (d.tables_in hand) ≡ part_in (held_at hand number)
    pub keeps : (new : A) (t : T) → d.InOrder t → d.InOrder (own.put new t)
    pub puts : (new : A) (t : T) → d.table_parts (own.put new t) ≡ change (λ old. part new) (d.table_parts t) number

  -- a question is answered by the tables that it is for
  pub record AreTold {K X : Type 0} (tells : Tells T K X) : Type 0 where
    pub same : (k : K) (facts : X) (us : List ℕ) (t : T) → d.InOrder t → AllIn (tells.tables k) us → tells.noted k (masked d us t) facts ≡ tells.noted k t facts

  -- ---- and what follows for every request in it: it reads and changes the tables that it uses alone

  pub record IsPlan (p : Plan T F) : Type 0 where
    pub more_same : (t : T) → d.InOrder t → p.more (masked d p.asks t) ≡ p.more t
    pub within : (t : T) → d.InOrder t → p.does t ≡ done_within d (p.asks ++ (p.more t ++ [])) t (p.does (masked d (p.asks ++ (p.more t ++ [])) t))
