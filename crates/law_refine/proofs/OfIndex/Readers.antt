-- A search for a read that no session makes. It is one more actor of the index, which has nothing to spare and changes nothing. So it goes on as one, while others do
-- their steps, and comes to the entry of its home.
use Rattle.std.proofs.Common.{◌≡◌, ℕ, ◌<◌, ◌≤◌, ◌⊎◌, ◌∙◌, zero, suc, refl, inl, inr, arith, sym, ap, subst, Bool, true, false, List, [], ◌∷◌, ◌++◌, length}
use Rattle.std.proofs.lemmas.List.{set-get_or}
use Rattle.std.specs.Prelude.{◌==◌, ◌&&◌, if◌then◌else◌, nat_lt, nat_le, Option, Some, slice_get}
use Rattle.fkv_plane.specs.declared.asks.Ask.{Ask}
use Rattle.fkv_plane.specs.declared.asks.Ask.TheVariants.{Load, Done}
use Rattle.fkv_plane.specs.declared.places.Places.{Places}
use Rattle.fkv_plane.specs.Asked.{reply_to, words_after}
use Rattle.fkv_plane.specs.Passing.{is_done}
use Rattle.fkv_index.specs.declared.homes.Home.{Home}
use Rattle.fkv_index.specs.declared.finding.Purpose.TheVariants.{Read}
use Rattle.fkv_index.specs.declared.finding.FindAnswer.{FindAnswer}
use Rattle.fkv_index.specs.declared.finding.Finding.{Finding}
use Rattle.fkv_index.specs.declared.finding.FindStep.{FindStep}
use Rattle.fkv_index.specs.declared.finding.FindStep.TheVariants.{AtRest, LoadsSlot, LoadsLink, LoadsTaken, TakesBucket, LinksBucket}
use Rattle.fkv_index.specs.declared.finding.Linking.TheVariants.{Never}
use Rattle.fkv_index.specs.Buckets.{bucket_words, overflow_bucket, HasPassed, IsAmong, IsOther, AreOthers}
use Rattle.fkv_index.specs.Entries.{entry_at, IsEntryAnswered}
use Rattle.fkv_index.specs.Finding.{first_finding, find_ask, find_step_ask, is_kept, find_led, find_next, find_next_ask, slot_led, link_led, taken_led, led_to}
use Rattle.fkv_index.specs.IndexWorld.{Seeks, SlotWork, IndexActor, IndexWorld, Moves, is_seeking, taken_of, actor_step, actor_after, answer_work, lists_sought, lists_by, lists_moved, moved, index_happens}
use Rattle.fkv_index.specs.OneEntry.{AreOwned, IsIndex, IsHome, IsLoad, Grows, Owner, SpareOf, spare_at}
use Rattle.fkv_index.specs.Slots.{entry_tag, is_entry, slot_word, link_of}
use Rattle.fkv_index.proofs.Shown.{IsDeep, IsReading, IsBegun, IsSound, HasHappened, SeekKnows, Stands, WorkKnows, among_real, deep_first, deep_more, event_happened, sound_entries, sound_reads}
use Rattle.law_refine.proofs.Items.{get_set}
use Rattle.law_refine.proofs.OfIndex.FindingFacts.{done_rests, more_seeks, next_home}

-- it was begun for a read, has nothing to spare, and stands in a bucket of its home's list, behind entries of other tags
pub record ReadsOn (p : Places) (words : List ℕ) (lists : ℕ → List ℕ) (f : Finding) : Type 0 where
  pub its_home : IsHome p f.home
  pub none_spare : f.spare ≡ 0
  pub its_reading : IsReading f
  pub its_row : SeekKnows p (bucket_words p words) lists f f.step

-- ---- it begins so
passed_here : (k : ℕ) (g : ℕ → ℕ → ℕ) (tag c : ℕ) (list : List ℕ) (m i : ℕ) → m ≡ c → AreOthers g tag c i → HasPassed k g tag c list m i
passed_here k g tag c [] m i same others = (same, others)
passed_here k g tag c (n ∷ rest) m i same others = inl (same, others)

none_before : (g : ℕ → ℕ → ℕ) (tag c : ℕ) → AreOthers g tag c 0
none_before g tag c j low = absurd (omega (arith, low))

spare_none : (p : Places) (home : Home) → (first_finding p home Read 0).spare ≡ 0
spare_none p home = by_test (nat_le 0 p.overflow)
  where
    by_test : (c : Bool) → ◌≡◌ {A = ℕ} (if c then 0 else 0) 0
    by_test true = refl
    by_test false = refl

pub read_first : (p : Places) (words : List ℕ) (lists : ℕ → List ℕ) (home : Home) → IsHome p home → ReadsOn p words lists (first_finding p home Read 0)
read_first p words lists home there = record {
  its_home = there;
  none_spare = spare_none p home;
  its_reading = record { never = refl; loads = tt };
  its_row = (
    omega arith,
    record {
      its_home = there;
      bucket = home.bucket;
      its_base = refl;
      passed = passed_here p.buckets (bucket_words p words) home.tag home.bucket (lists home.bucket) home.bucket 0 refl (none_before (bucket_words p words) home.tag home.bucket);
      depth = 0;
      deep = deep_first p.buckets home.bucket (lists home.bucket);
      budget = omega arith;
    },
  );
}

-- ---- and while entries keep their tags and lists grow at their ends it stands where it stood
passed_more : (k : ℕ) (g g' : ℕ → ℕ → ℕ) (tag c : ℕ) (list more : List ℕ) (m i : ℕ) → i ≤ 7
    → ((o j : ℕ) → IsAmong k c list o → j < 7 → IsOther tag (g o j) → IsOther tag (g' o j)) → HasPassed k g tag c list m i → HasPassed k g' tag c (list ++ more) m i
passed_more k g g' tag c [] more m i few kept h = passed_here k g' tag c more m i h.0 (λ j low. kept c j refl (omega (arith, low, few)) (h.1 j low))
passed_more k g g' tag c (r ∷ rest) more m i few kept (inl h) = inl (h.0, λ j low. kept c j (inl refl) (omega (arith, low, few)) (h.1 j low))
passed_more k g g' tag c (r ∷ rest) more m i few kept (inr h) =
    inr (λ j low. kept c j (inl refl) low (h.0 j low), passed_more k g g' tag (overflow_bucket k r) rest more m i few (λ o j there. kept o j (inr there)) h.1)

stands_more : (p : Places) (words after : List ℕ) (lists lists' : ℕ → List ℕ) (spares : ℕ → ℕ) (f : Finding) (slot : ℕ) → IsIndex p words lists spares → Grows p words after lists lists' → slot ≤ 7
    → Stands p (bucket_words p words) lists f slot → Stands p (bucket_words p after) lists' f slot
stands_more p words after lists lists' spares f slot index grows few stands =
    let home : Home = f.home in
    let more = grows.its_lists home.bucket in
    record {
      its_home = stands.its_home;
      bucket = stands.bucket;
      its_base = stands.its_base;
      passed = subst (λ (list : List ℕ). HasPassed p.buckets (bucket_words p after) home.tag home.bucket list stands.bucket slot) (sym more.1)
          (passed_more p.buckets (bucket_words p words) (bucket_words p after) home.tag home.bucket (lists home.bucket) more.0 stands.bucket slot few
          (λ o j among low other.
          let kept = grows.its_entries o j (among_real home.bucket o index stands.its_home.few among) low other.0 in
          (kept.0, λ e. other.1 (sym kept.1 ∙ e))) stands.passed);
      depth = stands.depth;
      deep = subst (λ (list : List ℕ). IsDeep p.buckets home.bucket list stands.bucket stands.depth) (sym more.1) (deep_more p.buckets home.bucket (lists home.bucket) more.0 stands.bucket stands.depth stands.deep);
      budget = stands.budget;
    }

row_more : (p : Places) (words after : List ℕ) (lists lists' : ℕ → List ℕ) (spares : ℕ → ℕ) (f : Finding) (step : FindStep) → IsIndex p words lists spares → Grows p words after lists lists'
    → SeekKnows p (bucket_words p words) lists f step → SeekKnows p (bucket_words p after) lists' f step
row_more p words after lists lists' spares f AtRest index grows knows = tt
row_more p words after lists lists' spares f (LoadsSlot slot) index grows knows = let low = knows.0 in (low, stands_more p words after lists lists' spares f slot index grows (omega (arith, low)) knows.1)
row_more p words after lists lists' spares f LoadsLink index grows knows = stands_more p words after lists lists' spares f 7 index grows (omega arith) knows
row_more p words after lists lists' spares f (LoadsTaken word) index grows knows = (stands_more p words after lists lists' spares f 7 index grows (omega arith) knows.0, knows.1)
row_more p words after lists lists' spares f (TakesBucket word taken) index grows knows = (stands_more p words after lists lists' spares f 7 index grows (omega arith) knows.0, knows.1, knows.2, knows.3)
row_more p words after lists lists' spares f (LinksBucket word) index grows knows = (stands_more p words after lists lists' spares f 7 index grows (omega arith) knows.0, knows.1, knows.2)

pub read_more : (p : Places) (words after : List ℕ) (lists lists' : ℕ → List ℕ) (spares : ℕ → ℕ) (f : Finding) → IsIndex p words lists spares → Grows p words after lists lists' → ReadsOn p words lists f → ReadsOn p after lists' f
read_more p words after lists lists' spares f index grows reads = record {
  its_home = reads.its_home;
  none_spare = reads.none_spare;
  its_reading = reads.its_reading;
  its_row = row_more p words after lists lists' spares f f.step index grows reads.its_row;
}

-- ---- a read gets nothing to spare
slot_spare : (f : Finding) (slot word : ℕ) → (led_to (slot_led f slot word (slot_word word))).spare ≡ f.spare
unfolding slot_word
slot_spare f slot word = by_tests (word == 0) (is_entry word) (entry_tag word == f.home.tag) refl refl refl
  where
    by_tests : (a b c : Bool) → (word == 0) ≡ a → is_entry word ≡ b → (entry_tag word == f.home.tag) ≡ c → (led_to (slot_led f slot word (slot_word word))).spare ≡ f.spare
    by_tests true b c empty entry same = rw empty refl
    by_tests false true true empty entry same = rw (empty, entry, same) refl
    by_tests false true false empty entry same = rw (empty, entry, same) refl
    by_tests false false c empty entry same = rw (empty, entry) refl

link_spare : (p : Places) (f : Finding) (word : ℕ) → f.linking ≡ Never → (led_to (link_led p f word)).spare ≡ f.spare
link_spare p f word never = by_tests (link_of word == 0) (nat_lt 0 f.links && nat_le (link_of word) p.overflow) refl refl
  where
    by_tests : (a b : Bool) → (link_of word == 0) ≡ a → (nat_lt 0 f.links && nat_le (link_of word) p.overflow) ≡ b → (led_to (link_led p f word)).spare ≡ f.spare
    by_tests true b last there = rw (last, never) refl
    by_tests false true last there = rw (last, there) refl
    by_tests false false last there = rw (last, there) refl

taken_spare : (p : Places) (f : Finding) (word taken : ℕ) → (led_to (taken_led p f word taken)).spare ≡ f.spare
taken_spare p f word taken = by_tests (is_kept f.linking taken) (f.spare == 0) (nat_lt taken p.overflow) refl refl refl
  where
    by_tests : (a b c : Bool) → is_kept f.linking taken ≡ a → (f.spare == 0) ≡ b → nat_lt taken p.overflow ≡ c → (led_to (taken_led p f word taken)).spare ≡ f.spare
    by_tests true b c kept none few = rw kept refl
    by_tests false true true kept none few = rw (kept, none, few) refl
    by_tests false true false kept none few = rw (kept, none, few) refl
    by_tests false false c kept none few = rw (kept, none) refl

next_spare : (p : Places) (f : Finding) (step : FindStep) (reply : ℕ) → f.linking ≡ Never → IsLoad (find_step_ask f step) → (led_to (find_led p f step reply)).spare ≡ f.spare
unfolding find_led find_step_ask
next_spare p f AtRest reply never loads = refl
next_spare p f (LoadsSlot slot) reply never loads = slot_spare f slot reply
next_spare p f LoadsLink reply never loads = link_spare p f reply never
next_spare p f (LoadsTaken word) reply never loads = taken_spare p f word reply
next_spare p f (TakesBucket word taken) reply never loads = absurd loads
next_spare p f (LinksBucket word) reply never loads = absurd loads

-- and links none
same_lists : (words : List ℕ) (lists : ℕ → List ℕ) (f : Finding) (step : FindStep) → IsLoad (find_step_ask f step) → lists_sought words lists f step ≡ lists
unfolding find_step_ask
same_lists words lists f (LinksBucket word) loads = absurd loads
same_lists words lists f step loads = refl

same_words : {A : Type 0} (words : List ℕ) (ask : Ask A) → IsLoad ask → words_after words ask ≡ words
same_words words (Load place) loads = set-get_or words place 0
same_words words (Done answer) loads = refl
same_words words ask loads = absurd loads

-- ---- a list of actors, and one more
last_got : {X : Type 0} (xs : List X) (x : X) → slice_get (xs ++ x ∷ []) (length xs) ≡ Some x
last_got [] x = refl
last_got (y ∷ xs) x = last_got xs x

one_or_last : {X : Type 0} (xs : List X) (x : X) (i : ℕ) (y : X) → slice_get (xs ++ x ∷ []) i ≡ Some y → (slice_get xs i ≡ Some y) ⊎ (x ≡ y)
one_or_last [] x zero y got = inr cc
one_or_last [] x (suc i) y got = cc
one_or_last (z ∷ xs) x zero y got = inl got
one_or_last (z ∷ xs) x (suc i) y got = one_or_last xs x i y got

each_and_last : {X : Type 0} (P : X → Type 0) (xs : List X) (x : X) → P x → ((i : ℕ) (y : X) → slice_get xs i ≡ Some y → P y) → (i : ℕ) (y : X) → slice_get (xs ++ x ∷ []) i ≡ Some y → P y
each_and_last P xs x last each i y got = elim (one_or_last xs x i y got) [
  | inl there ↦ each i y there
  | inr same ↦ subst P same last
]

none_more : (actors : List IndexActor) (x : IndexActor) (i : ℕ) → x.finding.spare ≡ 0 → spare_at (actors ++ x ∷ []) i ≡ spare_at actors i
none_more [] x zero none = none
none_more [] x (suc i) none = refl
none_more (z ∷ actors) x zero none = refl
none_more (z ∷ actors) x (suc i) none = none_more actors x i none

-- the same buckets are spare
same_owned : (taken : ℕ) (lists : ℕ → List ℕ) (spares after : ℕ → ℕ) (owner : ℕ → Owner) → ((i : ℕ) → after i ≡ spares i) → AreOwned taken lists spares owner → AreOwned taken lists after owner
same_owned taken lists spares after owner same owned = record {
  listed = owned.listed;
  in_list = owned.in_list;
  once = owned.once;
  spared = λ i some. subst (λ (number : ℕ). owner number ≡ SpareOf i) (sym (same i)) (owned.spared i (subst (λ (number : ℕ). 1 ≤ number) (same i) some));
  is_spare = λ i number its. same i ∙ owned.is_spare i number its;
  taken_some = owned.taken_some;
  none_else = owned.none_else;
}

same_index : (p : Places) (words : List ℕ) (lists : ℕ → List ℕ) (spares after : ℕ → ℕ) → ((i : ℕ) → after i ≡ spares i) → IsIndex p words lists spares → IsIndex p words lists after
same_index p words lists spares after same index = record {
  enough_words = index.enough_words;
  few_taken = index.few_taken;
  linked = index.linked;
  filled = index.filled;
  one_entry = index.one_entry;
  no_others = index.no_others;
  entries = index.entries;
  owner = index.owner;
  owned = same_owned (taken_of words) lists spares after index.owner same index.owned;
  fresh = index.fresh;
}

at_rest : (step : FindStep) → is_seeking step ≡ false → step ≡ AtRest
at_rest AtRest e = refl
at_rest step e = cc

-- where an actor has done its step, it knows what it has to
record HasMoved (p : Places) (words : List ℕ) (lists : ℕ → List ℕ) (x : IndexActor) : Type 0 where
  its_row : WorkKnows p (bucket_words p (actor_step p words x.finding x.work).words) (lists_by words lists x.finding x.work) (actor_after p words x x.work).finding (actor_after p words x x.work).work
  its_begun : IsBegun (actor_after p words x x.work)

has_moved : (w : IndexWorld) (i : ℕ) (x : IndexActor) → slice_get w.now.actors i ≡ Some x → IsSound w → HasMoved w.now.places w.now.words w.lists x
unfolding index_happens
has_moved w i x got sound =
    let its : HasHappened w (record { now = moved w.now i (Some x); lists = lists_moved w.now w.lists (Some x) }) =
    subst (λ (found : Option IndexActor). HasHappened w (record { now = moved w.now i found; lists = lists_moved w.now w.lists found })) got (event_happened w (Moves i) sound) in
    let there = get_set w.now.actors i x (actor_after w.now.places w.now.words x x.work) got in
    record { its_row = its.sound.rows i (actor_after w.now.places w.now.words x x.work) there; its_begun = its.sound.begun i (actor_after w.now.places w.now.words x x.work) there }

-- ---- beside the actors of the index
module _ (w : IndexWorld) (f : Finding) (sound : IsSound w) (reads : ReadsOn w.now.places w.now.words w.lists f) where
  abbrev p : Places
  p = w.now.places

  abbrev words : List ℕ
  words = w.now.words

  abbrev reader : IndexActor
  reader = record { finding = f; work = Seeks; purpose = Read; spare = 0 }

  abbrev beside : IndexWorld
  beside = record { now = record { places = w.now.places; words = w.now.words; actors = w.now.actors ++ reader ∷ [] }; lists = w.lists }

  got : slice_get beside.now.actors (length w.now.actors) ≡ Some reader
  got = last_got w.now.actors reader

  sound_beside : IsSound beside
  sound_beside = record {
    its_index = same_index p words w.lists (spare_at w.now.actors) (spare_at beside.now.actors) (λ i. none_more w.now.actors reader i reads.none_spare) sound.its_index;
    rows = each_and_last (λ x. WorkKnows p (bucket_words p words) w.lists x.finding x.work) w.now.actors reader reads.its_row sound.rows;
    begun = each_and_last IsBegun w.now.actors reader (record { its_spare = λ rests. sym reads.none_spare; its_reading = λ read. reads.its_reading }) sound.begun;
  }

  pub read_loads : IsLoad (find_ask f)
  read_loads = (sound_reads beside sound_beside (length w.now.actors) reader got refl refl).0

  -- what it comes to is its home's entry
  pub read_entry : IsEntryAnswered (entry_at p words w.lists f.home) (find_next_ask p f (reply_to words (find_ask f)))
  read_entry = sound_entries beside sound_beside (length w.now.actors) reader got refl

  abbrev next : Finding
  next = find_next p f (reply_to words (find_ask f))

  has_row : (ask : Ask FindAnswer) → find_next_ask p f (reply_to words (find_ask f)) ≡ ask → WorkKnows p (bucket_words p words) w.lists next (answer_work ask) → SeekKnows p (bucket_words p words) w.lists next next.step
  has_row ask is row = by_done (is_done ask) refl
    where
      by_done : (c : Bool) → is_done ask ≡ c → SeekKnows p (bucket_words p words) w.lists next next.step
      by_done true over =
          let rests : next.step ≡ AtRest = at_rest next.step (done_rests p f (reply_to words (find_ask f)) (ap is_done is ∙ over)) in
          subst (SeekKnows p (bucket_words p words) w.lists next) (sym rests) tt
      by_done false more = subst (λ (work : SlotWork). WorkKnows p (bucket_words p words) w.lists next work) (more_seeks ask more) row

  -- and where its ask is replied to it goes on as one
  pub read_next : ReadsOn p words w.lists next
  read_next =
      let moves = has_moved beside (length w.now.actors) reader got sound_beside in
      let row : WorkKnows p (bucket_words p (words_after words (find_ask f))) (lists_sought words w.lists f f.step) next (answer_work (find_next_ask p f (reply_to words (find_ask f)))) = moves.its_row in
      let here : WorkKnows p (bucket_words p words) w.lists next (answer_work (find_next_ask p f (reply_to words (find_ask f)))) =
      subst (λ (lists : ℕ → List ℕ). WorkKnows p (bucket_words p words) lists next (answer_work (find_next_ask p f (reply_to words (find_ask f))))) (same_lists words w.lists f f.step read_loads)
      (subst (λ (after : List ℕ). WorkKnows p (bucket_words p after) (lists_sought words w.lists f f.step) next (answer_work (find_next_ask p f (reply_to words (find_ask f))))) (same_words words (find_ask f) read_loads) row) in
      record {
        its_home = subst (IsHome p) (sym (next_home p f (reply_to words (find_ask f)))) reads.its_home;
        none_spare = next_spare p f f.step (reply_to words (find_ask f)) reads.its_reading.never read_loads ∙ reads.none_spare;
        its_reading = moves.its_begun.its_reading refl;
        its_row = has_row (find_next_ask p f (reply_to words (find_ask f))) refl here;
      }
