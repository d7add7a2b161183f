-- A ring of two frames goes round, event by event: a page is opened in a frame that another page has had.
use Rattle.std.specs.Prelude.{◌≡◌, ℕ, List, [], ◌∷◌, ◌++◌, replicate, true, None}
use Rattle.fkv_base.specs.declared.shapes.Shape.{Shape}
use Rattle.fkv_plane.specs.declared.places.Places.{Places}
use Rattle.fkv_plane.specs.declared.places.RecordWord.TheVariants as rec
use Rattle.fkv_plane.specs.Asked.{word_at}
use Rattle.fkv_words.specs.Layout.{header_word}
use Rattle.fkv_record.specs.Numbers.{spelled}
use Rattle.fkv_record.specs.Places as image
use Rattle.fkv_disk.specs.Calls.{Write, Sync}
use Rattle.fkv_log.specs.declared.record_words.RecordWords.{RecordWords}
use Rattle.fkv_log.specs.declared.turning.TurnForm.TheVariants.{Whole}
use Rattle.fkv_epoch.specs.EpochWorld.{ToRefresh, ToScan, ToClaim}
use Rattle.fkv_flush.specs.GuardWorld.{GuardWorld, GuardEvent, Begins, Resumes, Moves, Calls, Publishes, ToDo, ToReserve, ToFill, ToShift, ToTurnPage, ToFlush, guard_run, levels}
use Rattle.fkv_flush.specs.Guarded.{IsOpened, ArePermittedEvents, opening}
use Rattle.fkv_flush.specs.GuardFlushed.{OneFlushes, stands, calls_made}

-- one session, one bucket, and two frames of four records; the records end at 7, and the page from 8 on is open
abbrev pub turned_words : List ℕ
turned_words = 1 ∷ 0 ∷ 0 ∷ 7 ∷ 12 ∷ 7 ∷ 7 ∷ 7 ∷ 7 ∷ 7 ∷ replicate 14 0 ++ 1 ∷ replicate 47 0

-- the session refreshes; then actor 1 scans, and claims what is safe. (The newest event stands first.)
abbrev pub refreshed_and_claimed : List GuardEvent
refreshed_and_claimed =
    replicate 20 (Moves 1) ++ Begins 1 (ToDo ToClaim) ∷ replicate 3 (Moves 1) ++ Begins 1 (ToDo ToScan)
    ∷ Moves 0 ∷ Resumes 0 ∷ replicate 4 (Moves 0) ++ Begins 0 (ToDo ToRefresh) ∷ []

-- The session writes a record at 7, the last of its page. Actor 1 shifts the read-only offset to 8, and flushes up to there once the session
-- has seen it; it moves the head to 8, and opens the page after the next once the session has seen that.
abbrev pub turns_round : RecordWords → List GuardEvent
turns_round its_words =
    replicate 3 (Moves 1) ++ Begins 1 (ToTurnPage Whole 8)
    ∷ refreshed_and_claimed ++ replicate 12 (Moves 1) ++ Begins 1 (ToTurnPage Whole 8)
    ∷ Moves 1 ∷ Calls 1 true ∷ Calls 1 true ∷ replicate 5 (Moves 1) ++ Begins 1 ToFlush
    ∷ refreshed_and_claimed ++ replicate 10 (Moves 1) ++ Begins 1 ToShift
    ∷ Publishes 0 ∷ replicate 3 (Moves 0) ++ Begins 0 (ToFill its_words) ∷ replicate 3 (Moves 0) ++ Begins 0 (ToReserve None) ∷ []

-- what was written is flushed and closed, and the limit is a page further
pub record HasTurned (w : GuardWorld) : Type 0 where
  pub written : word_at w.now.words 71 ≡ 70
  pub flushed : (levels w).flushed ≡ 8
  pub closed : (levels w).closed ≡ 8
  pub limit : (levels w).limit ≡ 16

-- what stands for the record at 7, and what the device was told: to write it, and to sync
pub record IsFlushed (shape : Shape) (first : GuardWorld) (its_words : RecordWords) (events : List GuardEvent) : Type 0 where
  pub header : stands first events 7 rec.Header ≡ header_word its_words.header
  pub key : stands first events 7 rec.Key ≡ its_words.key.0
  pub value : stands first events 7 rec.Value ≡ its_words.value
  pub calls : calls_made first events ≡ Sync true ∷ Write (image.record_place shape 7) (spelled (header_word its_words.header ∷ its_words.key.0 ∷ its_words.value ∷ [])) true ∷ []

-- there is such a store
pub record GoesRound : Type 0 where
  pub shape : Shape
  pub places : Places
  pub its_words : RecordWords
  pub value : its_words.value ≡ 70
  pub opened : IsOpened shape places 2 turned_words 7
  pub turned : HasTurned (guard_run (opening shape places 2 turned_words 7) (turns_round its_words))
  pub flushed : IsFlushed shape (opening shape places 2 turned_words 7) its_words (turns_round its_words)
  pub one_flushes : OneFlushes 1 (turns_round its_words)
  pub permitted : ArePermittedEvents (opening shape places 2 turned_words 7) (turns_round its_words)
