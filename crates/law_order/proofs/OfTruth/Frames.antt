-- What a session that attempts something meets in memory shows in its frame.
use Rattle.std.proofs.Common.{◌≡◌, ℕ, ◌<◌, ◌≤◌, ◌∙◌, inl, inr, sym, ap, arith, List, []}
use Rattle.std.specs.Prelude.{Some, slice_get}
use Rattle.std.proofs.lemmas.Bool.{cases_lt}
use Rattle.law_commit.specs.Below.fkv_flush.GuardLevels.{levels_of}
use Rattle.law_commit.specs.Below.fkv_ops.HeaderWords.{header_said}
use Rattle.law_commit.specs.Below.fkv_ops.Values.{value_of}
use Rattle.law_log.specs.Chains.{Cell, Published}
use Rattle.law_log.specs.Ghosts.{Ghosts, Log}
use Rattle.law_log.proofs.Shown.{not_unborn}
use Rattle.fkv_plane.specs.declared.places.Places.{Places}
use Rattle.fkv_plane.specs.declared.places.RecordWord.{RecordWord}
use Rattle.fkv_plane.specs.declared.places.RecordWord.TheVariants as rec
use Rattle.fkv_plane.specs.Asked.{word_at}
use Rattle.fkv_plane.specs.Places.{record_place}
use Rattle.law_commit.specs.Below.fkv_session.Sessions.{SessionState}
use Rattle.law_commit.specs.Below.law_local.Tries.WordsShow.{IsHere}
use Rattle.law_commit.specs.Below.fkv_world.Runs.{World, run}
use Rattle.law_commit.specs.Below.fkv_world.World.{Event, Now}
use Rattle.law_commit.proofs.Below.fkv_world.Shown.{places_stay}
use Rattle.law_commit.specs.Below.law_world.Guarded.Shows.{IsOpened}
use Rattle.law_commit.specs.Below.law_refine.Events.GhostEvents.{life_ghosts}
use Rattle.law_commit.specs.Below.law_refine.Events.Reserved.{tail_at, IsUnbornFrom, ReservesNothing}
use Rattle.law_commit.proofs.Below.law_refine.OfEvents.Unborn.{ghost_unborn}
use Rattle.law_commit.proofs.Below.law_refine.OfEvents.Fixed.{life_rises}
use Rattle.law_commit.specs.Below.law_refine.Records.Cells.{ShowsCell}
use Rattle.law_commit.specs.Below.law_refine.Records.Changes.{AreChangesPublished}
use Rattle.law_commit.specs.Below.law_refine.Records.Frames.{IsAttempting, words_framed}
use Rattle.law_commit.specs.Below.law_refine.Records.Warm.{MemoryShowsLog}
use Rattle.law_commit.proofs.Below.law_refine.OfRecords.Standing.{HasFrame, stands_in, stood_here}
use Rattle.law_commit.proofs.Below.law_refine.OfRecords.Frames.{finds_framed, frames_show_log, head_above}
use Rattle.law_commit.proofs.Below.law_refine.OfRecords.Life.{life_holds}
use Rattle.law_commit.proofs.Below.law_refine.OfRecords.FrameOwners.{sees_safely}

-- what is published lies below the tail
pub published_below : (opening : World) (start : ℕ) (ghosts : Ghosts) (events : List Event) (a : ℕ) (cell : Cell) → IsOpened opening.now start → IsUnbornFrom (tail_at opening.now) ghosts
    → (life_ghosts opening ghosts events).log.cells a ≡ Published cell → a < tail_at (run opening events).now
published_below opening start ghosts events a cell opened none e = elim (cases_lt a (tail_at (run opening events).now)) [
  | inl low ↦ low
  | inr high ↦ absurd (not_unborn ((life_ghosts opening ghosts events).log.cells a) cell e (ghost_unborn opening start ghosts events opened none a high))
]

-- the words of the record's frame show it, where it is published
abbrev pub ShowsInFrame : Now → Log → ℕ → Type 0
ShowsInFrame n log a = (cell : Cell) → log.cells a ≡ Published cell → ShowsCell (words_framed n a) cell

-- ---- from the head that the session has seen
shows_above : (opening : World) (start : ℕ) (ghosts : Ghosts) (events : List Event) (session : ℕ) (s : SessionState) (a : ℕ) → IsOpened opening.now start → IsUnbornFrom (tail_at opening.now) ghosts → ReservesNothing ghosts → MemoryShowsLog opening start ghosts.log
    → AreChangesPublished opening ghosts events → slice_get (run opening events).now.sessions session ≡ Some s → IsAttempting s.step → s.seen.offsets.head.0 ≤ a
    → ShowsInFrame (run opening events).now (life_ghosts opening ghosts events).log a
shows_above opening start ghosts events session s a opened none free warm published found attempts above = λ cell e.
    let head = head_above opening start events session s opened found attempts in
    frames_show_log opening start (levels_of opening.now.words).closed ghosts events opened none free published opened.words.closed warm a cell (omega (arith, head, above))
    (finds_framed opening start events session s opened found attempts a above (published_below opening start ghosts events a cell opened none e)) e

-- ---- from the read-only offset that it has seen
read_only_above : (opening : World) (start : ℕ) (events : List Event) (session : ℕ) (s : SessionState) → IsOpened opening.now start → slice_get (run opening events).now.sessions session ≡ Some s → IsAttempting s.step
    → start ≤ s.seen.offsets.read_only.0
unfolding run
read_only_above opening start events session s opened found attempts =
    let rises = (life_rises opening start [] events opened).safe_read_only in
    let first = opened.words.safe_read_only in
    let safe = (sees_safely opening start events session s opened found attempts).read_only in
    omega (arith, rises, first, safe)

same_shown : (one other : RecordWord → ℕ) (cell : Cell) → ((part : RecordWord) → other part ≡ one part) → ShowsCell one cell → ShowsCell other cell
same_shown one other cell same shows = record {
  header = ap header_said (same rec.Header) ∙ shows.header;
  key = same rec.Key ∙ shows.key;
  value = ap value_of (same rec.Value) ∙ shows.value;
}

shows_mutable : (opening : World) (start : ℕ) (ghosts : Ghosts) (events : List Event) (session : ℕ) (s : SessionState) (a : ℕ) → IsOpened opening.now start → IsUnbornFrom (tail_at opening.now) ghosts → ReservesNothing ghosts
    → AreChangesPublished opening ghosts events → slice_get (run opening events).now.sessions session ≡ Some s → IsAttempting s.step → s.seen.offsets.read_only.0 ≤ a
    → ShowsInFrame (run opening events).now (life_ghosts opening ghosts events).log a
shows_mutable opening start ghosts events session s a opened none free published found attempts above = λ cell e.
    let n : Now = (run opening events).now in
    let first = read_only_above opening start events session s opened found attempts in
    let safe = (sees_safely opening start events session s opened found attempts).read_only in
    let framed : HasFrame n a = record { safe = omega (arith, safe, above); below = published_below opening start ghosts events a cell opened none e } in
    same_shown (stands_in opening start events a) (words_framed n a) cell
    (λ part. ap (λ (p : Places). word_at n.words (record_place p a part)) (places_stay opening events) ∙ sym (stood_here opening start events a part opened framed))
    ((life_holds opening start ghosts events opened none free published).shows a cell (omega (arith, first, above)) e)

pub shows_here : (opening : World) (start : ℕ) (ghosts : Ghosts) (events : List Event) (session : ℕ) (s : SessionState) (a : ℕ) → IsOpened opening.now start → IsUnbornFrom (tail_at opening.now) ghosts → ReservesNothing ghosts → MemoryShowsLog opening start ghosts.log
    → AreChangesPublished opening ghosts events → slice_get (run opening events).now.sessions session ≡ Some s → IsAttempting s.step → IsHere s.seen a
    → ShowsInFrame (run opening events).now (life_ghosts opening ghosts events).log a
shows_here opening start ghosts events session s a opened none free warm published found attempts (inl above) = shows_above opening start ghosts events session s a opened none free warm published found attempts above
shows_here opening start ghosts events session s a opened none free warm published found attempts (inr above) = shows_mutable opening start ghosts events session s a opened none free published found attempts above
