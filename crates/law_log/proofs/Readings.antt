-- What is known of each read by how far it has come, and that each step keeps it: the value that it goes for is its key's at some moment since its call.
use Rattle.std.proofs.Common.{◌≡◌, inl, inr, ℕ, ◌∙◌, append_assoc, Option, List, [], ◌∷◌, ◌++◌, refl, sym, ap, subst}
use Rattle.fkv_map.specs.Map.{Map}
use Rattle.law_log.specs.Trace.{Effect, TraceLine, GivesResult, CallsRead, IsIn, value_in, HaveTakenEffect, OrdersCalls}
use Rattle.law_log.specs.Chains.{value_at, head_of, first_such, has_key, IsWithin}
use Rattle.law_log.specs.Ghosts.{Log, Reading, NotCalled, Called, Walks, HasValue, first_from, found, took}
use Rattle.law_log.proofs.Lists.{in_place, place_of}
use Rattle.law_log.proofs.Chains.{from_head, head_within}
use Rattle.law_log.proofs.Held.{Held, Grows, shown_stays}

-- the read was called, once, for this key; what had taken effect then has each update whose result had been given
pub record IsBegun (trace : List TraceLine) (reader key : ℕ) (seen : List Effect) : Type 0 where
  pub called : IsIn (CallsRead reader key) trace
  pub its : (between earlier : List TraceLine) (key' : ℕ) → trace ≡ between ++ CallsRead reader key' ∷ earlier → (key' ≡ key) × HaveTakenEffect earlier seen

pub record HasSeen (history seen : List Effect) : Type 0 where
  pub newer : List Effect
  pub all : history ≡ newer ++ seen

-- the key had this value at some moment since
pub record HadValue (m : Map) (history seen : List Effect) (key : ℕ) (value : Option ℕ) : Type 0 where
  pub newer : List Effect
  pub between : List Effect
  pub all : history ≡ newer ++ (between ++ seen)
  pub its : value ≡ value_in m (between ++ seen) key

-- what is known of a read that goes down its chain
abbrev pub KnowsWalk : (ℕ → ℕ) → Map → Log → ℕ → List Effect → ℕ → Type 0
KnowsWalk home m log key seen a = IsWithin a (log.chains (home key)) × HadValue m log.history seen key (value_at (log.cells (first_from home log key a)))

abbrev pub KnowsRead : (ℕ → ℕ) → Map → Log → List TraceLine → ℕ → Reading → Type 0
KnowsRead home m log trace reader NotCalled = (key : ℕ) → IsIn (CallsRead reader key) trace → ⊥
KnowsRead home m log trace reader (Called key seen) = IsBegun trace reader key seen × HasSeen log.history seen
KnowsRead home m log trace reader (Walks key seen a) = IsBegun trace reader key seen × KnowsWalk home m log key seen a
KnowsRead home m log trace reader (HasValue key seen value) = IsBegun trace reader key seen × HadValue m log.history seen key value

-- ---- the log grows
seen_longer : (home : ℕ → ℕ) (m : Map) (log log' : Log) (seen : List Effect) → Grows home m log log' → HasSeen log.history seen → HasSeen log'.history seen
seen_longer home m log log' seen grows has = record {
  newer = grows.newer ++ has.newer;
  all = grows.longer ∙ ap (λ h. grows.newer ++ h) has.all ∙ sym (append_assoc grows.newer has.newer seen);
}

had_longer : (home : ℕ → ℕ) (m : Map) (log log' : Log) (seen : List Effect) (key : ℕ) (value : Option ℕ) → Grows home m log log' → HadValue m log.history seen key value → HadValue m log'.history seen key value
had_longer home m log log' seen key value grows had = record {
  newer = grows.newer ++ had.newer;
  between = had.between;
  all = grows.longer ∙ ap (λ h. grows.newer ++ h) had.all ∙ sym (append_assoc grows.newer had.newer (had.between ++ seen));
  its = had.its;
}

-- what the key has now it has at some moment since
has_now : (m : Map) (history seen : List Effect) (key : ℕ) (value : Option ℕ) → HasSeen history seen → value ≡ value_in m history key → HadValue m history seen key value
has_now m history seen key value has now = record { newer = []; between = has.newer; all = has.all; its = now ∙ ap (λ h. value_in m h key) has.all }

had_seen : (m : Map) (history seen : List Effect) (key : ℕ) (value : Option ℕ) → HadValue m history seen key value → HasSeen history seen
had_seen m history seen key value had = record { newer = had.newer ++ had.between; all = had.all ∙ sym (append_assoc had.newer had.between seen) }

pub read_steps : (home : ℕ → ℕ) (m : Map) (log log' : Log) (trace : List TraceLine) (reader : ℕ) (reading : Reading) → Held home m log → Grows home m log log' → KnowsRead home m log trace reader reading → KnowsRead home m log' trace reader reading
read_steps home m log log' trace reader NotCalled held grows knows = knows
read_steps home m log log' trace reader (Called key seen) held grows knows = (knows.0, seen_longer home m log log' seen grows knows.1)
read_steps home m log log' trace reader (Walks key seen a) held grows knows = (
  knows.0,
  (
    (grows.chains (home key) a knows.1.0).1,
    elim (shown_stays home m log log' held.chains held.none grows key a knows.1.0) [
      | inl same ↦ subst (λ v. HadValue m log'.history seen key v) (sym same) (had_longer home m log log' seen key _ grows knows.1.1)
      | inr now ↦ has_now m log'.history seen key _ (seen_longer home m log log' seen grows (had_seen m log.history seen key _ knows.1.1)) now.1
    ],
  ),
)
read_steps home m log log' trace reader (HasValue key seen value) held grows knows = (knows.0, had_longer home m log log' seen key value grows knows.1)

-- ---- the read itself goes on
-- where a chain begins it shows what its key has now
found_now : (home : ℕ → ℕ) (m : Map) (log : Log) (seen : List Effect) (key : ℕ) → Held home m log → HasSeen log.history seen → KnowsWalk home m log key seen (head_of (log.chains (home key)))
found_now home m log seen key held has =
    let chain = log.chains (home key) in
    (head_within chain, has_now m log.history seen key _ has (ap (λ c. value_at (log.cells (first_such (has_key key) log.cells c))) (from_head chain) ∙ held.shows key))

pub finds_knows : (home : ℕ → ℕ) (m : Map) (log : Log) (trace : List TraceLine) (reader : ℕ) (reading : Reading) → Held home m log → KnowsRead home m log trace reader reading → KnowsRead home m log trace reader (found home log reading)
finds_knows home m log trace reader NotCalled held knows = knows
finds_knows home m log trace reader (Called key seen) held knows = (knows.0, found_now home m log seen key held knows.1)
finds_knows home m log trace reader (Walks key seen a) held knows = (knows.0, found_now home m log seen key held (had_seen m log.history seen key _ knows.1.1))
finds_knows home m log trace reader (HasValue key seen value) held knows = knows

pub takes_knows : (home : ℕ → ℕ) (m : Map) (log : Log) (trace : List TraceLine) (reader : ℕ) (reading : Reading) → KnowsRead home m log trace reader reading → KnowsRead home m log trace reader (took home log reading)
takes_knows home m log trace reader NotCalled knows = knows
takes_knows home m log trace reader (Called key seen) knows = knows
takes_knows home m log trace reader (Walks key seen a) knows = (knows.0, knows.1.1)
takes_knows home m log trace reader (HasValue key seen value) knows = knows

-- ---- one more line
abbrev pub IsNoCall : TraceLine → ℕ → Type 0
IsNoCall line reader = (key : ℕ) → line ≡ CallsRead reader key → ⊥

begun_on : (trace : List TraceLine) (line : TraceLine) (reader key : ℕ) (seen : List Effect) → IsNoCall line reader → IsBegun trace reader key seen → IsBegun (line ∷ trace) reader key seen
begun_on trace line reader key seen no_call begun = record {
  called = inr begun.called;
  its = λ between earlier key' was. elim (place_of line (CallsRead reader key') trace between earlier was) [
    | inl front ↦ absurd (no_call key' front.its)
    | inr behind ↦ begun.its behind.fewer earlier key' behind.place
  ];
}

pub read_told : (home : ℕ → ℕ) (m : Map) (log : Log) (trace : List TraceLine) (line : TraceLine) (reader : ℕ) (reading : Reading) → IsNoCall line reader → KnowsRead home m log trace reader reading
    → KnowsRead home m log (line ∷ trace) reader reading
read_told home m log trace line reader NotCalled no_call knows = λ key is_in. elim is_in [
  | inl same ↦ no_call key same
  | inr older ↦ knows key older
]
read_told home m log trace line reader (Called key seen) no_call knows = (begun_on trace line reader key seen no_call knows.0, knows.1)
read_told home m log trace line reader (Walks key seen a) no_call knows = (begun_on trace line reader key seen no_call knows.0, knows.1)
read_told home m log trace line reader (HasValue key seen value) no_call knows = (begun_on trace line reader key seen no_call knows.0, knows.1)

-- a read that is called: it has seen what has taken effect
pub begins_read : (home : ℕ → ℕ) (m : Map) (log : Log) (trace : List TraceLine) (reader key : ℕ) → OrdersCalls log.history trace → KnowsRead home m log trace reader NotCalled
    → KnowsRead home m log (CallsRead reader key ∷ trace) reader (Called key log.history)
begins_read home m log trace reader key orders knows = (
  record {
    called = inl refl;
    its = λ between earlier key' was. elim (place_of (CallsRead reader key) (CallsRead reader key') trace between earlier was) [
      | inl front ↦ (sym (same_key key key' front.its), λ session serial reply is_in. (orders.given session serial reply (subst (IsIn (GivesResult session serial reply)) (sym front.all_older) is_in)).update)
      | inr behind ↦ absurd (knows key' (in_place (CallsRead reader key') trace behind.fewer earlier behind.place))
    ];
  },
  record { newer = []; all = refl },
)
  where
    same_key : (key key' : ℕ) → CallsRead reader key ≡ CallsRead reader key' → key ≡ key'
    same_key key key' same = cc
