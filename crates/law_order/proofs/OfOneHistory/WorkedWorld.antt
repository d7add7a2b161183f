-- The world of the worked lives is one with which a new store of their shape opens.
use Rattle.std.proofs.Common.{◌≡◌, ℕ, zero, suc, ◌+◌, ◌*◌, ◌/◌, ◌%◌, ◌^◌, ◌<◌, List, [], ◌∷◌, ◌++◌, length, refl, sym, ◌∙◌, ap, subst, arith}
use Rattle.std.specs.Prelude.{Some, if◌then◌else◌, min, nat_eq, replicate, slice_get, slice_index, slice_index_or}
use Rattle.std.proofs.lemmas.List.Sorted.{IsPermutation-refl}
use Rattle.fkv_base.specs.declared.classes.StoreClass.TheVariants.{Specified}
use Rattle.fkv_base.specs.declared.numbers.Addr.{Addr}
use Rattle.fkv_base.specs.declared.phases.Phase.TheVariants.{Rest}
use Rattle.fkv_base.specs.declared.shapes.Shape.{Shape}
use Rattle.fkv_marks.specs.Marks.{mark}
use Rattle.fkv_sweep.specs.Sweeping.{sweep_begun}
use Rattle.law_opening.specs.Below.fkv_core.OpeningWords.{AreWordsOfOpened, frames_of, laid_round, ring_words, warm_place, words_before_frames, words_of_sessions, words_once}
use Rattle.law_opening.specs.Below.fkv_core.Openings.{IsOpeningSession, IsOpeningWorld, newest_commit}
use Rattle.law_opening.specs.Below.fkv_creating.Created.{IsNewStore}
use Rattle.fkv_record.specs.Points.{serial_numbers}
use Rattle.fkv_entries.specs.declared.home_entries.HomeEntry.{HomeEntry}
use Rattle.fkv_entries.specs.Room.{bucket_words}
use Rattle.law_opening.specs.Below.fkv_filling.Filled.{AreByTag, IsFilled, all_needed, filled_by, link_words, links_behind}
use Rattle.law_commit.specs.Below.fkv_keeper.Keeping.{Finality, KeeperState}
use Rattle.law_commit.specs.Below.fkv_keeper.NewKeepers.{ArePlacesOfStore, IsNewKeeper}
use Rattle.law_opening.specs.Below.fkv_opening.Opening.{opening_limit, point_of}
use Rattle.law_opening.specs.Below.fkv_opening.TheOpened.{Opened}
use Rattle.law_commit.specs.Below.fkv_session.Sessions.{SessionState}
use Rattle.law_commit.specs.Below.fkv_world.Runs.{World}
use Rattle.law_commit.specs.Below.fkv_world.World.{Now}
use Rattle.fkv_words.specs.Layout.{phase_spelled}
use Rattle.fkv_words.specs.Phases.{phase_number}
use Rattle.law_commit.specs.WorkedRuns.{resting_keeper}
use Rattle.law_commit.specs.Below.law_refine.Events.Worked.{first_session, first_words, first_world}
use Rattle.law_order.proofs.OfOneHistory.WorkedShape.{places, shape}

-- The keeper's sweep is of this store, and has nothing to go over.
abbrev pub swept_keeper : KeeperState → KeeperState
swept_keeper k = record k { sweep = sweep_begun shape places k.last.begin k.last.begin }

places_fit : ArePlacesOfStore shape places
unfolding shape places
places_fit = record { sessions = refl; buckets = refl; overflow = refl; ring = refl }

-- its world, with this keeper and these sessions
unfoldable pub worked_now : KeeperState → SessionState → SessionState → Now
worked_now keeper one other = let first : World = first_world shape places keeper one other in first.now

-- ---- its words
once_of : ℕ → ℕ → ℕ → ℕ → List ℕ
once_of number tail warm limit = 1 ∷ 0 ∷ phase_spelled (number + 1) (phase_number Rest) ∷ tail ∷ limit ∷ tail ∷ tail ∷ tail ∷ warm ∷ warm ∷ 0 ∷ [] ++ replicate 5 0 ++ replicate 8 0

own_of : ℕ → ℕ → List ℕ
own_of number point =
    1 ∷ (if nat_eq (number % 2) 0 then point + mark number * 2 ^ 48 else 0) ∷ (if nat_eq (number % 2) 1 then point + mark number * 2 ^ 48 else 0) ∷ 0 ∷ point ∷ 0 ∷ 0 ∷ 0 ∷ 0 ∷ 0 ∷ [] ++ replicate 6 0

all_of : ℕ → ℕ → ℕ → ℕ → ℕ → ℕ → List ℕ
all_of number tail warm limit point other = once_of number tail warm limit ++ ([] ++ own_of number point ++ own_of number other) ++ replicate 8 0 ++ replicate 24 0

all_first : all_of 0 1 1 8 0 0 ≡ first_words
unfolding all_of once_of own_of mark
all_first = refl

same_all : (number tail warm limit point other : ℕ) → number ≡ 0 → tail ≡ 1 → warm ≡ 1 → limit ≡ 8 → point ≡ 0 → other ≡ 0 → all_of number tail warm limit point other ≡ all_of 0 1 1 8 0 0
same_all number tail warm limit point other a b w c d e = cc

-- the words of an index of one bucket without entries
no_homes : List HomeEntry
no_homes = []

no_entries_filled : IsFilled 1 0 [] (replicate 8 0) 0
unfolding link_words links_behind filled_by all_needed no_homes
no_entries_filled = record { chains = [] ∷ []; many = refl; each = one_chain; filled = refl; all_taken = refl }
  where
    one_chain : (b : ℕ) → b < 1 → AreByTag (bucket_words b no_homes) (slice_index_or ([] ∷ []) b [])
    one_chain zero below = record { same = IsPermutation-refl []; ascending = λ i j d up low. absurd (omega (arith, low)) }
    one_chain (suc b) below = absurd (omega (arith, below))

-- ---- a new store of this shape
no_point : (xs : List ℕ) (n k : ℕ) → xs ≡ replicate n 0 → slice_index xs k ≡ 0
no_point xs n k e = ap (λ (its : List ℕ). slice_index its k) e ∙ zeros n k
  where
    zeros : (n k : ℕ) → slice_index (replicate n 0) k ≡ 0
    zeros zero k = refl
    zeros (suc n) zero = refl
    zeros (suc n) (suc k) = zeros n k

addr_at : ℕ → Addr
addr_at n = record { 0 = n }

one_addr : (x : Addr) → x.0 ≡ 1 → addr_at 1 ≡ x
unfolding addr_at
one_addr x e = ap addr_at (sym e)

words_at : Opened → Shape → List ℕ
words_at o s = words_once o 0 ++ words_of_sessions o s.sessions ++ replicate 8 0 ++ replicate (3 * (s.frames * s.page)) 0

as_computed : (o : Opened) → words_at o shape ≡ all_of o.number.0 o.tail.0 o.warm.0 (opening_limit o) (point_of o 0) (point_of o 1)
unfolding shape words_at words_of_sessions all_of once_of own_of
as_computed o = refl

none_laid : (o : Opened) → length o.frames.items ≡ 0 → frames_of o ≡ replicate (ring_words o) 0
unfolding laid_round
none_laid o none = ap (λ (n : ℕ). laid_round 0 (ring_words o) (warm_place o) o.frames.items (replicate (ring_words o) 0) n) none

module _ (o : Opened) (new : IsNewStore shape o) where
  point : (number : ℕ) → point_of o number ≡ 0
  point number = no_point (serial_numbers o.points.items) o_sessions number new.points
    where
      o_sessions : ℕ
      o_sessions = shape.sessions

  limit : opening_limit o ≡ 8
  unfolding shape
  limit =
      ap (λ (s : Shape). min (o.tail.0 / s.page + 2) s.disk_pages * s.page) new.its_shape
      ∙ ap (λ (tail : ℕ). min (tail / 4 + 2) 64 * 4) new.tail

  -- memory has no record
  warm : o.warm.0 ≡ 1
  warm = let some = o.some_warm in let up = o.warm_in_log in omega (arith, some, up, new.tail)

  frames_are : frames_of o ≡ replicate (ring_words o) 0
  frames_are = none_laid o (let three = o.three_words in omega (arith, three, new.tail, warm))

  words_are : first_words ≡ words_before_frames o (replicate 8 0) 0 ++ frames_of o
  unfolding words_at
  words_are =
      let by_shape : words_at o o.shape ≡ words_at o shape = ap (words_at o) new.its_shape in
      sym (by_shape ∙ as_computed o ∙ same_all o.number.0 o.tail.0 o.warm.0 (opening_limit o) (point_of o 0) (point_of o 1) new.number new.tail warm limit (point 0) (point 1) ∙ all_first)
      ∙ ap (λ (frames : List ℕ). words_before_frames o (replicate 8 0) 0 ++ frames) (sym frames_are)

  is_filled : IsFilled (2 ^ o.shape.bucket_bits) o.shape.overflow o.entries.items (replicate 8 0) 0
  unfolding shape
  is_filled =
      subst (λ (entries : List HomeEntry). IsFilled (2 ^ o.shape.bucket_bits) o.shape.overflow entries (replicate 8 0) 0) (sym new.entries)
      (subst (λ (s : Shape). IsFilled (2 ^ s.bucket_bits) s.overflow [] (replicate 8 0) 0) (sym new.its_shape) no_entries_filled)

  its_words : AreWordsOfOpened o first_words
  its_words = record { index = replicate 8 0; taken = 0; filled = is_filled; whole = words_are }

  session_opens : (its : SessionState) (number : ℕ) → its.floor ≡ o.begin → IsOpeningSession o number (first_session its)
  unfolding addr_at
  session_opens its number floor = record {
    opened = record { awake = refl; none_wait = refl; no_ticket = refl; no_orphan = refl; no_spare = refl; no_asks = refl; no_effect = refl; none_finished = refl; none_in_hand = refl; serial_fits = omega arith };
    serial = sym (point number);
    floor = floor;
    saw = record { phase = refl; version = omega (arith, new.number); head = one_addr o.warm warm; read_only = one_addr o.tail new.tail };
  }

  sessions_open : (one other : SessionState) (number : ℕ) (s : SessionState) → one.floor ≡ o.begin → other.floor ≡ o.begin → slice_get (first_session one ∷ first_session other ∷ []) number ≡ Some s → IsOpeningSession o number s
  sessions_open one other zero s floor second found = let same : first_session one ≡ s = cc in subst (λ (its : SessionState). IsOpeningSession o 0 its) same (session_opens one 0 floor)
  sessions_open one other (suc zero) s floor second found = let same : first_session other ≡ s = cc in subst (λ (its : SessionState). IsOpeningSession o 1 its) same (session_opens other 1 second)
  sessions_open one other (suc (suc more)) s floor second found = absurd (cc)

  pub its_class : Specified ≡ o.shape.class
  unfolding shape
  its_class = ap (λ (s : Shape). s.class) (sym new.its_shape)

  keeper_opens : (n : Now) → IsOpeningWorld o n → IsNewKeeper o.shape (newest_commit o) o.lost.items (record { shape = shape; places = places; state = resting_keeper (swept_keeper n.keeper) })
  keeper_opens n its =
      let was = its.its_keeper in
      record {
        its_shape = sym new.its_shape;
        its_places = subst (λ (s : Shape). ArePlacesOfStore s places) (sym new.its_shape) places_fit;
        newest = was.newest;
        serves_from = ap (λ (last : Finality). last.begin) was.newest;
        used = was.used;
        class = its_class;
        in_hand = sym new.lost;
        its_sessions = was.its_sessions;
        sought = was.sought;
        no_call = refl;
        turns_rest = refl;
        no_commit = refl;
        no_copy = was.no_copy;
        not_entered = was.not_entered;
        no_points = was.no_points;
        none_finished = was.none_finished;
        none_left_out = was.none_left_out;
        works = refl;
        granted = was.granted;
        none_rest = refl;
        none_flushed = refl;
        none_swept = ap (λ (last : Finality). sweep_begun shape places last.begin last.begin) was.newest;
      }

  pub world_opens : (n : Now) (one other : SessionState) → one.floor ≡ o.begin → other.floor ≡ o.begin → IsOpeningWorld o n → IsOpeningWorld o (worked_now (resting_keeper (swept_keeper n.keeper)) one other)
  unfolding worked_now shape
  world_opens n one other floor second its = record {
    its_shape = sym new.its_shape;
    its_places = subst (λ (s : Shape). ArePlacesOfStore s places) (sym new.its_shape) places_fit;
    its_words = its_words;
    no_actions = refl;
    seats = seats;
    its_sessions = λ number s found. sessions_open one other number s floor second found;
    its_keeper = keeper_opens n its;
    goes_on = refl;
  }
    where
      seats : 2 ≡ o.shape.sessions
      seats = ap (λ (s : Shape). s.sessions) (sym new.its_shape)
