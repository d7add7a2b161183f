-- What a sweep by the words of a life knows at each of its steps, and that it goes on to know it, whatever its reads give.
use Rattle.std.proofs.Common.{◌≡◌, ℕ, ◌+◌, ◌-◌, ◌<◌, ◌≤◌, ◌∙◌, refl, sym, ap, subst, arith, Bool, true, false, List, [], ◌∷◌, ◌++◌, length}
use Rattle.std.specs.Prelude.{◌==◌, ◌&&◌, nat_lt, if◌then◌else◌, ⊤}
use Rattle.fkv_base.specs.declared.numbers.Addr.{Addr}
use Rattle.fkv_base.specs.declared.numbers.Key.{Key}
use Rattle.fkv_base.specs.declared.shapes.Shape.{Shape}
use Rattle.fkv_plane.specs.declared.asks.Ask.{Ask}
use Rattle.fkv_plane.specs.declared.asks.Ask.TheVariants.{Done}
use Rattle.fkv_plane.specs.declared.places.Places.{Places}
use Rattle.fkv_plane.specs.Asked.{reply_to}
use Rattle.fkv_plane.proofs.Shown.{passed_reply}
use Rattle.fkv_index.specs.declared.finding.FindAnswer.{FindAnswer}
use Rattle.fkv_index.specs.declared.finding.Found.{Found}
use Rattle.fkv_index.specs.declared.finding.Found.TheVariants.{Slot}
use Rattle.fkv_index.specs.declared.finding.Purpose.TheVariants.{Read}
use Rattle.fkv_index.specs.Finding.{first_finding, find_ask, find_next, find_next_ask}
use Rattle.fkv_index.specs.Slots.{entry_addr, home_of}
use Rattle.fkv_sweep.specs.declared.sweeping.SweepAnswer.TheVariants as answer
use Rattle.fkv_sweep.specs.declared.sweeping.Sweeping.{Sweeping}
use Rattle.fkv_sweep.specs.declared.sweeping.Sweeping.TheVariants.{AtRest, LoadsHead, Takes, Meets, Finds, LoadsKey, LoadsHeader, Reads}
use Rattle.fkv_sweep.proofs.Shown.{IsSameSweep}
use Rattle.fkv_sweep.specs.Sweeping.{Sweeper, most_records, most_wanted, words_at, words_held, piece_read, holds, is_counted, previous_in, is_sweeping, turn_begun, coming, gone_on, record_passed, key_wanted, reached, led_down, slot_found, find_ledto, key_met, chain_met, record_met, sweeping_ask, sweep_ask, sweeping_next, sweep_next, sweeping_read, sweep_read, sweep_failed}
use Rattle.law_commit.specs.Below.fkv_flush.GuardLevels.{levels_of}
use Rattle.law_commit.specs.Below.fkv_world.Runs.{World, run}
use Rattle.law_commit.specs.Below.fkv_world.World.{Event}
use Rattle.law_commit.specs.Below.law_refine.Index.Shows.{IsOpened}
use Rattle.law_commit.proofs.Below.fkv_world.Shown.{places_stay}
use Rattle.law_commit.proofs.Below.law_refine.OfHeads.LifeReaders.{ReadsBehind, life_read_first, life_read_next, life_read_stays}
use Rattle.law_commit.proofs.Below.law_refine.OfIndex.FindingFacts.{next_home}
use Rattle.law_order.specs.Swept.Sweeps.{SweepsStore}

-- a sweep stays one of the same store
pub store_stays : (opening : World) (s later : Sweeper) → SweepsStore opening s → IsSameSweep s later → SweepsStore opening later
store_stays opening s later sweeps same = record {
  places = same.places ∙ sweeps.places;
  buckets = ap (λ (shape : Shape). shape.bucket_bits) same.shape ∙ sweeps.buckets;
  its_end = subst (λ (a : Addr). 0 < a.0) (sym same.to) sweeps.its_end;
}

-- ---- the head is no higher than it has loaded it, so no frame from there on is used again
abbrev pub HasHead : World → List Event → Sweeper → Type 0
HasHead opening events s = (levels_of (run opening events).now.words).head ≤ s.head.0

-- its search is one for the home of this key, and has come so far
pub record SearchesFor (opening : World) (lists : ℕ → List ℕ) (events : List Event) (s : Sweeper) (key : Key) : Type 0 where
  pub has_head : HasHead opening events s
  pub reads : ReadsBehind opening lists events s.finding
  pub its_home : s.finding.home ≡ home_of opening.now.shape.bucket_bits key

abbrev pub StepKnowsWords : World → (ℕ → List ℕ) → List Event → Sweeper → Sweeping → Type 0
StepKnowsWords opening lists events s AtRest = ⊤
StepKnowsWords opening lists events s LoadsHead = ⊤
StepKnowsWords opening lists events s (Finds key) = SearchesFor opening lists events s key
StepKnowsWords opening lists events s step = HasHead opening events s

abbrev pub KnowsWords : World → (ℕ → List ℕ) → List Event → Sweeper → Type 0
KnowsWords opening lists events s = StepKnowsWords opening lists events s s.step

-- ---- where its steps lead
module _ (opening : World) (lists : ℕ → List ℕ) (events : List Event) where
  coming_knows : (s : Sweeper) → HasHead opening events s → KnowsWords opening lists events (record s { step = coming s.piece s.next })
  coming_knows s has = by_test (holds s.piece s.next)
    where
      by_test : (c : Bool) → KnowsWords opening lists events (record s { step = if c then Takes else Meets })
      by_test true = has
      by_test false = has

  gone_knows : (s : Sweeper) → HasHead opening events s → KnowsWords opening lists events (gone_on s)
  gone_knows s has = by_test (nat_lt (s.next.0 + 1) s.to.0 && nat_lt 1 s.left && nat_lt (length s.wanted) most_wanted)
    where
      by_test : (c : Bool) → KnowsWords opening lists events (record s { next = record { 0 = s.next.0 + 1 }; left = s.left - 1; step = if c then coming s.piece (record { 0 = s.next.0 + 1 }) else AtRest })
      by_test true = coming_knows (record s { next = record { 0 = s.next.0 + 1 }; left = s.left - 1 }) has
      by_test false = tt

  passed_knows : (s : Sweeper) → HasHead opening events s → KnowsWords opening lists events (record_passed s)
  passed_knows s has = gone_knows (record s { at = if length s.wanted == 0 then record { 0 = s.next.0 + 1 } else s.at }) has

  wanted_knows : (s : Sweeper) (key : Key) → HasHead opening events s → KnowsWords opening lists events (key_wanted s key)
  wanted_knows s key has = gone_knows (record s { wanted = s.wanted ++ key ∷ [] }) has

  reached_knows : (s : Sweeper) (key : Key) (addr : ℕ) → HasHead opening events s → KnowsWords opening lists events (reached s key addr)
  reached_knows s key addr has = by_tests (nat_lt addr s.to.0) (nat_lt addr s.head.0)
    where
      by_tests : (c d : Bool) → KnowsWords opening lists events (if c then key_wanted s key else (if d then record s { step = Reads key (record { 0 = addr }) } else record s { step = LoadsKey key (record { 0 = addr }) }))
      by_tests true d = wanted_knows s key has
      by_tests false true = has
      by_tests false false = has

  down_knows : (s : Sweeper) (key : Key) (addr : Addr) (previous : ℕ) → HasHead opening events s → KnowsWords opening lists events (led_down s key addr previous)
  down_knows s key addr previous has = by_test (nat_lt previous addr.0)
    where
      by_test : (c : Bool) → KnowsWords opening lists events (if c then reached s key previous else key_wanted s key)
      by_test true = reached_knows s key previous has
      by_test false = wanted_knows s key has

  found_knows : (s : Sweeper) (key : Key) (found : Found) → HasHead opening events s → KnowsWords opening lists events (slot_found s key found)
  found_knows s key (Slot place word) has = reached_knows s key (entry_addr word) has
  found_knows s key found has = wanted_knows s key has

  ledto_knows : (s : Sweeper) (key : Key) (ask : Ask FindAnswer) → HasHead opening events s → KnowsWords opening lists events s → KnowsWords opening lists events (find_ledto s key ask)
  unfolding find_ledto
  ledto_knows s key (Done its) has knows = found_knows s key its.found has
  ledto_knows s key ask has knows = knows

  key_knows : (s : Sweeper) (key : Key) (addr : Addr) (word : ℕ) → HasHead opening events s → KnowsWords opening lists events (key_met s key addr word)
  key_knows s key addr word has = by_test (word == key.0)
    where
      by_test : (c : Bool) → KnowsWords opening lists events (if c then record_passed s else record s { step = LoadsHeader key addr })
      by_test true = passed_knows s has
      by_test false = has

  chain_knows : (s : Sweeper) (key : Key) (addr : Addr) (words : _) → HasHead opening events s → KnowsWords opening lists events (chain_met s key addr words)
  chain_knows s key addr words has = by_test (words.key.0 == key.0)
    where
      by_test : (c : Bool) → KnowsWords opening lists events (if c then record_passed s else led_down s key addr (previous_in words.header))
      by_test true = passed_knows s has
      by_test false = down_knows s key addr (previous_in words.header) has

  -- ---- of a sweep of the life's store
  module _ (opened : IsOpened opening lists) where
    begins_search : (s : Sweeper) (key : Key) → SweepsStore opening s → HasHead opening events s
        → SearchesFor opening lists events (record s { finding = first_finding s.places (home_of s.shape.bucket_bits key) Read 0; step = Finds key }) key
    begins_search s key sweeps has = record {
      has_head = has;
      reads = subst (λ (bits : ℕ). ReadsBehind opening lists events (first_finding s.places (home_of bits key) Read 0)) (sym sweeps.buckets)
          (subst (λ (p : Places). ReadsBehind opening lists events (first_finding p (home_of opening.now.shape.bucket_bits key) Read 0)) (places_stay opening events ∙ sym sweeps.places) (life_read_first opening lists events key opened));
      its_home = ap (λ (bits : ℕ). home_of bits key) sweeps.buckets;
    }

    pub met_knows : (s : Sweeper) (words : _) → SweepsStore opening s → HasHead opening events s → KnowsWords opening lists events (record_met s words)
    met_knows s words sweeps has = by_test (is_counted words)
      where
        by_test : (c : Bool) → KnowsWords opening lists events (if c then record s { finding = first_finding s.places (home_of s.shape.bucket_bits words.key) Read 0; step = Finds words.key } else record_passed s)
        by_test true = begins_search s words.key sweeps has
        by_test false = passed_knows s has

    goes_on : (s : Sweeper) (key : Key) → SweepsStore opening s → SearchesFor opening lists events s key
        → SearchesFor opening lists events (record s { finding = find_next s.places s.finding (reply_to (run opening events).now.words (find_ask s.finding)) }) key
    goes_on s key sweeps searches = record {
      has_head = searches.has_head;
      reads = subst (λ (p : Places). ReadsBehind opening lists events (find_next p s.finding (reply_to (run opening events).now.words (find_ask s.finding)))) (places_stay opening events ∙ sym sweeps.places)
          (life_read_next opening lists events s.finding opened searches.reads);
      its_home = next_home s.places s.finding (reply_to (run opening events).now.words (find_ask s.finding)) ∙ searches.its_home;
    }

    stays : (s : Sweeper) (step : Sweeping) → s.step ≡ step → StepKnowsWords opening lists events s step → KnowsWords opening lists events s
    stays s step at knows = subst (StepKnowsWords opening lists events s) (sym at) knows

    -- where its ask is replied to with the word as it is
    step_replied : (s : Sweeper) (step : Sweeping) → s.step ≡ step → SweepsStore opening s → StepKnowsWords opening lists events s step
        → KnowsWords opening lists events (sweeping_next s step (reply_to (run opening events).now.words (sweeping_ask s step)))
    unfolding sweeping_next sweeping_ask
    step_replied s AtRest at sweeps knows = stays s AtRest at tt
    step_replied s LoadsHead at sweeps knows = coming_knows (record s { head = record { 0 = (levels_of (run opening events).now.words).head } }) (omega arith)
    step_replied s Takes at sweeps knows = met_knows s (words_held s.piece s.next) sweeps knows
    step_replied s Meets at sweeps knows = stays s Meets at knows
    step_replied s (Finds key) at sweeps knows = subst (λ (word : ℕ). KnowsWords opening lists events (find_ledto (record s { finding = find_next s.places s.finding word }) key (find_next_ask s.places s.finding word)))
        (sym (passed_reply (run opening events).now.words (find_ask s.finding) answer.Through)) by_reply
      where
        word : ℕ
        word = reply_to (run opening events).now.words (find_ask s.finding)

        next : SearchesFor opening lists events (record s { finding = find_next s.places s.finding word }) key
        next = goes_on s key sweeps knows

        by_reply : KnowsWords opening lists events (find_ledto (record s { finding = find_next s.places s.finding word }) key (find_next_ask s.places s.finding word))
        by_reply = ledto_knows (record s { finding = find_next s.places s.finding word }) key (find_next_ask s.places s.finding word) knows.has_head
            (stays (record s { finding = find_next s.places s.finding word }) (Finds key) at next)
    step_replied s (LoadsKey key addr) at sweeps knows = key_knows s key addr (reply_to (run opening events).now.words (sweeping_ask s (LoadsKey key addr))) knows
    step_replied s (LoadsHeader key addr) at sweeps knows = down_knows s key addr (previous_in (reply_to (run opening events).now.words (sweeping_ask s (LoadsHeader key addr)))) knows
    step_replied s (Reads key addr) at sweeps knows = stays s (Reads key addr) at knows

    pub replied_knows : (s : Sweeper) → SweepsStore opening s → KnowsWords opening lists events s → KnowsWords opening lists events (sweep_next s (reply_to (run opening events).now.words (sweep_ask s)))
    replied_knows s sweeps knows = step_replied s s.step refl sweeps knows

    -- where bytes are read for it, any
    step_read : (s : Sweeper) (step : Sweeping) (bytes : List ℕ) → s.step ≡ step → SweepsStore opening s → StepKnowsWords opening lists events s step → KnowsWords opening lists events (sweeping_read s step bytes)
    unfolding sweeping_read
    step_read s Meets bytes at sweeps knows =
        met_knows (record s { piece = piece_read s.next bytes }) (words_held (piece_read s.next bytes) s.next) (record { places = sweeps.places; buckets = sweeps.buckets; its_end = sweeps.its_end }) knows
    step_read s (Reads key addr) bytes at sweeps knows = chain_knows s key addr (words_at bytes 0) knows
    step_read s step bytes at sweeps knows = stays s step at knows

    pub read_knows : (s : Sweeper) (bytes : List ℕ) → SweepsStore opening s → KnowsWords opening lists events s → KnowsWords opening lists events (sweep_read s bytes)
    read_knows s bytes sweeps knows = step_read s s.step bytes refl sweeps knows

  -- where a turn begins, and behind a read that failed
  pub begun_knows : (s : Sweeper) → KnowsWords opening lists events (turn_begun s)
  begun_knows s = by_test (is_sweeping s)
    where
      by_test : (c : Bool) → KnowsWords opening lists events (record s { next = s.at; left = most_records; wanted = []; step = if c then LoadsHead else AtRest })
      by_test true = tt
      by_test false = tt

  pub failed_knows : (s : Sweeper) → KnowsWords opening lists events (sweep_failed s)
  failed_knows s = tt

-- ---- and while an event happens that leaves the head where it is
has_head_then : (before after head : ℕ) → after ≡ before → before ≤ head → after ≤ head
has_head_then before after head same has = omega (arith, same, has)

pub knows_then : (opening : World) (lists : ℕ → List ℕ) (before : List Event) (event : Event) (s : Sweeper) → IsOpened opening lists
    → (levels_of (run opening (event ∷ before)).now.words).head ≡ (levels_of (run opening before).now.words).head → KnowsWords opening lists before s → KnowsWords opening lists (event ∷ before) s
knows_then opening lists before event s opened same knows = by_step s.step knows
  where
    then_has : HasHead opening before s → HasHead opening (event ∷ before) s
    then_has has = has_head_then (levels_of (run opening before).now.words).head (levels_of (run opening (event ∷ before)).now.words).head s.head.0 same has

    by_step : (step : Sweeping) → StepKnowsWords opening lists before s step → StepKnowsWords opening lists (event ∷ before) s step
    by_step AtRest knows = tt
    by_step LoadsHead knows = tt
    by_step (Finds key) knows = record { has_head = then_has knows.has_head; reads = life_read_stays opening lists before event s.finding opened knows.reads; its_home = knows.its_home }
    by_step step knows = then_has knows
