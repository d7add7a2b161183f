-- What memory has of the log as an opened store's life begins.
use Rattle.std.proofs.Common.{◌≡◌, ◌∙◌, inl, inr, ap, subst, refl, ℕ, ◌+◌, ◌*◌, ◌/◌, ◌%◌, ◌^◌, ◌<◌, ◌≤◌, Bool, true, false, cond, arith, List, []}
use Rattle.std.specs.Prelude.{◌==◌}
use Rattle.std.proofs.lemmas.Bool.{cases_lt}
use Rattle.fkv_marks.specs.Marks.{mark}
use Rattle.fkv_marks.proofs.Shown.{mark_fits, mark_some}
use Rattle.fkv_core.specs.Openings.{IsOpeningWorld, beginning}
use Rattle.fkv_core.proofs.Shown.{framed}
use Rattle.fkv_plane.specs.Places.{record_number}
use Rattle.fkv_plane.specs.declared.places.RecordWord.{RecordWord}
use Rattle.fkv_plane.specs.declared.places.RecordWord.TheVariants as rec
use Rattle.fkv_record.specs.Begin.{from_or_none}
use Rattle.fkv_record.proofs.Shown.{from_lower}
use Rattle.law_log.specs.Chains.{Cell, Published, Unborn}
use Rattle.law_log.proofs.Shown.{not_unborn}
use Rattle.law_opening.specs.Log.Begins.{Begins}
use Rattle.law_opening.specs.Log.OpeningLog.{cell_at, chain_of, is_in, logged_at, opening_ghosts, opening_log}
use Rattle.law_opening.specs.Log.Records.{HasWhatCounts}
use Rattle.law_opening.proofs.OfLives.Words.{once_word, parted}
use Rattle.law_paper.specs.Below.fkv_opening.Opened.{IsStoreOf}
use Rattle.law_paper.specs.Below.fkv_opening.TheOpened.{Opened}
use Rattle.law_paper.specs.Below.fkv_opening.Warm.{record_word, warm_word}
use Rattle.law_paper.specs.Below.fkv_pairs.Pairs.{log_of_store}
use Rattle.law_refine.specs.Below.fkv_flush.GuardLevels.{levels_of}
use Rattle.law_refine.specs.Below.fkv_ops.HeaderSaid.TheVariants.{Says}
use Rattle.law_refine.specs.Below.fkv_ops.HeaderWords.{header_said}
use Rattle.law_refine.specs.Below.fkv_ops.Values.{value_of}
use Rattle.law_refine.specs.Below.fkv_world.Runs.{run}
use Rattle.law_refine.specs.Below.fkv_world.World.{Now}
use Rattle.law_refine.specs.Below.law_world.Guarded.Shows.{IsOpened}
use Rattle.law_refine.specs.Events.GhostEvents.{home_in}
use Rattle.law_refine.specs.Records.Cells.{ShowsCell}
use Rattle.law_refine.specs.Records.Warm.{MemoryShowsLog}
use Rattle.law_refine.proofs.OfRecords.Standing.{stands_in, stood}

-- the cell of an address is that of the image
same_cell : (c d : Cell) → Published c ≡ Published d → c ≡ d
same_cell c d is = cc

cell_is : (image : List ℕ) (o : Opened) (a : ℕ) (cell : Cell) → logged_at image o a ≡ Published cell → cell_at image o a ≡ cell
unfolding logged_at
cell_is image o a cell is = by_test (is_in a (chain_of image o (home_in o.shape.bucket_bits (let c = cell_at image o a in c.key)))) is
  where
    by_test : (t : Bool) → cond t (Published (cell_at image o a)) Unborn ≡ Published cell → cell_at image o a ≡ cell
    by_test true e = same_cell (cell_at image o a) cell e
    by_test false e = absurd (cc)

-- a header that says this
header_says : (word previous version : ℕ) → previous < 2 ^ 48 → 0 < version → version < 2 ^ 13 → word ≡ previous + version * 2 ^ 48 → header_said word ≡ Says (record { 0 = previous }) (record { 0 = version })
unfolding header_said
header_says word previous version low some high is =
    let its_previous : word % 2 ^ 48 ≡ previous = omega (arith, low, is) in
    let its_version : word / 2 ^ 48 % 2 ^ 13 ≡ version = omega (arith, low, high, is) in
    let bit : word / 2 ^ 61 % 2 ≡ 0 = omega (arith, low, high, is) in
    let last : word / 2 ^ 63 ≡ 0 = omega (arith, low, high, is) in
    let nonzero : (version == 0) ≡ false = grind (arith, some) in
    rw (its_previous, its_version, bit, last, nonzero) refl

module _ (bytes : List ℕ) (o : Opened) (n : Now) (world : IsOpeningWorld o n) where
  -- what stands for it as the life begins
  stands_framed : (a k : ℕ) (part : RecordWord) → IsOpened n o.tail.0 → o.warm.0 ≤ a → a < o.tail.0 → record_number part ≡ k → k < 3 → stands_in (beginning n bytes) o.tail.0 [] a part ≡ warm_word o a k
  unfolding run
  stands_framed a k part guarded above below is small =
      let closed : (levels_of n.words).closed ≡ o.warm.0 = once_word o n.words (parted o n.words world.its_words) 9 (omega arith) in
      let ring : n.places.ring ≡ o.shape.frames * o.shape.page = world.its_places.ring in
      let room = guarded.words.tail_below in
      let near = guarded.words.limit_below in
      stood (beginning n bytes) o.tail.0 [] a part guarded (omega (arith, room, below)) (omega (arith, near, closed, above))
      ∙ framed o n.places n.words a k part world.its_words world.its_places above below is small (omega (arith, room, near, closed, ring))

  shows_cell : (a : ℕ) → IsStoreOf bytes o → IsOpened n o.tail.0 → o.warm.0 ≤ a → a < o.tail.0 → 0 < o.number.0 → ShowsCell (stands_in (beginning n bytes) o.tail.0 [] a) (cell_at bytes o a)
  unfolding cell_at
  shows_cell a store guarded above below some =
      record {
        header = ap header_said (stands_framed a 0 rec.Header guarded above below refl (omega arith))
            ∙ header_says (warm_word o a 0) (from_or_none o.begin.0 (record_word bytes o.shape a 0 % 2 ^ 48)) (mark o.number.0) (omega (arith, from_lower o.begin.0 (record_word bytes o.shape a 0 % 2 ^ 48))) (mark_some o.number.0 some) (mark_fits o.number.0) (store.warm.header a above below);
        key = stands_framed a 1 rec.Key guarded above below refl (omega arith) ∙ store.warm.key a above below;
        value = ap value_of (stands_framed a 2 rec.Value guarded above below refl (omega arith) ∙ store.warm.value a above below);
      }

  -- and so each published record shows there
  pub warm_shows : (store : IsStoreOf bytes o) → IsOpened n o.tail.0 → Begins n (opening_ghosts bytes o) → HasWhatCounts (log_of_store bytes o store) (opening_log bytes o) → MemoryShowsLog (beginning n bytes) o.tail.0 (opening_log bytes o)
  warm_shows store guarded begins counted = λ a cell above e.
      let closed : (levels_of n.words).closed ≡ o.warm.0 = once_word o n.words (parted o n.words world.its_words) 9 (omega arith) in
      let counts = (counted.published a cell e).counts in
      let some = (counted.published a cell e).held.header.some_version in
      let old = counts.old_enough in
      let number : o.number.0 ≡ (let log = log_of_store bytes o store in log.version) = store.tells.number in
      subst (ShowsCell (stands_in (beginning n bytes) o.tail.0 [] a)) (cell_is bytes o a cell e)
      (shows_cell a store guarded (omega (arith, closed, above)) (below_tail a cell e guarded begins) (omega (arith, some, old, number)))
    where
      below_tail : (a : ℕ) (cell : Cell) → logged_at bytes o a ≡ Published cell → IsOpened n o.tail.0 → Begins n (opening_ghosts bytes o) → a < o.tail.0
      below_tail a cell e guarded begins = elim (cases_lt a o.tail.0) [
        | inl low ↦ low
        | inr high ↦ let tail = guarded.words.tail in absurd (not_unborn (logged_at bytes o a) cell e (begins.unborn a (omega (arith, tail, high))))
      ]
