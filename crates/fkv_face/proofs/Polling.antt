-- What a poll tells C, by what the handle was told and what it has finished.
use Rattle.std.proofs.Common.{◌≡◌, ◌<◌, ◌≤◌, ◌^◌, ◌++◌, ℕ, ℤ, pos, List, [], map, drop, length, min, refl, sym, ap, ◌∙◌, subst, arith, to_z, of_z, w32}
use Rattle.std.proofs.lemmas.Int.{to_z_pos}
use Rattle.fkv_session.specs.Answers.{IsAnswerTold}
use Rattle.fkv_session.specs.declared.answers.Answer.{Answer}
use Rattle.fkv_session.specs.declared.answers.Finished.{Finished}
use Rattle.fkv_session.specs.declared.answers.Told.{Told}
use Rattle.fkv_session.specs.declared.answers.Told.TheVariants as told
use Rattle.fkv_handles.specs.Below.fkv_world.Runs.{World}
use Rattle.fkv_handles.specs.declared.sessions.Session.{Session}
use Rattle.fkv_handles.specs.Handles.{Opening, keys_of, sitting_of}
use Rattle.fkv_handles.specs.Laid.{laid_call}
use Rattle.fkv_handles.specs.Sittings.{IsToldCall, finished_in}
use Rattle.fkv_face.specs.declared.polls.FinishedRequest.{FinishedRequest}
use Rattle.fkv_face.specs.declared.told.Numbers.{Numbers}
use Rattle.fkv_face.specs.Calls.{poll}
use Rattle.fkv_face.specs.Polls.{ArePolled, IsPolled, request_of}
use Rattle.fkv_face.specs.Told.{HasAnswered, answer_saying, numbers_of}
use Rattle.fkv_face.proofs.Results.{told_fault}
use Rattle.fkv_face.proofs.Sayings.{says_so}

-- a result is passed as its bits
abbrev result_of : Told → ℤ
result_of its = let n : Numbers = numbers_of (answer_saying its []) in n.result

passed : (its : Told) (result : ℤ) → result ≡ result_of its → to_z w32 (of_z w32 result) ≡ result_of its
passed (told.Done serial reply) result is = ap (λ (z : ℤ). to_z w32 (of_z w32 z)) is
passed (told.Pending serial reason) result is = ap (λ (z : ℤ). to_z w32 (of_z w32 z)) is
passed (told.Found value) result is = ap (λ (z : ℤ). to_z w32 (of_z w32 z)) is
passed told.Absent result is = ap (λ (z : ℤ). to_z w32 (of_z w32 z)) is
passed (told.PendingRead ticket) result is = ap (λ (z : ℤ). to_z w32 (of_z w32 z)) is
passed (told.Refreshed phase version) result is = ap (λ (z : ℤ). to_z w32 (of_z w32 z)) is
passed (told.Woken phase version) result is = ap (λ (z : ℤ). to_z w32 (of_z w32 z)) is
passed (told.Polled left) result is = ap (λ (z : ℤ). to_z w32 (of_z w32 z)) is
passed told.Slept result is = ap (λ (z : ℤ). to_z w32 (of_z w32 z)) is
passed (told.Durable serial) result is = ap (λ (z : ℤ). to_z w32 (of_z w32 z)) is
passed (told.Refused why) result is = told_fault why result is

module _ (at : Opening → World) (before after : Session) (its : Told) (called : IsToldCall at (sitting_of before) (laid_call (keys_of before) poll) its (sitting_of after)) (keys : keys_of after ≡ keys_of before) (room : List FinishedRequest) (enough : 64 ≤ length room) where
  abbrev finished : List Finished
  finished = finished_in (sitting_of after)

  answered : HasAnswered at before poll (answer_saying its finished) after
  answered = record { called = called (answer_saying its finished) (says_so its finished); keys = keys }

  polled_so : (result : ℤ) (room' : List FinishedRequest) (count : ℕ) → ArePolled (answer_saying its finished) room result room' count → IsPolled at before room result room' count after
  polled_so result room' count are = record {
    small = λ few. absurd (omega (arith, few, enough));
    polled = λ h. (answer_saying its finished, answered, are);
  }

  -- it was refused
  are_other : (its : Told) (finished : List Finished) (result : ℤ) → ((left : ℕ) → its ≡ told.Polled left → ⊥) → result ≡ result_of its → ArePolled (answer_saying its finished) room (to_z w32 (of_z w32 result)) room 0
  are_other (told.Done serial reply) finished result not is = (passed (told.Done serial reply) result is, refl, refl)
  are_other (told.Pending serial reason) finished result not is = (passed (told.Pending serial reason) result is, refl, refl)
  are_other (told.Found value) finished result not is = (passed (told.Found value) result is, refl, refl)
  are_other told.Absent finished result not is = (passed told.Absent result is, refl, refl)
  are_other (told.PendingRead ticket) finished result not is = (passed (told.PendingRead ticket) result is, refl, refl)
  are_other (told.Refreshed phase version) finished result not is = (passed (told.Refreshed phase version) result is, refl, refl)
  are_other (told.Woken phase version) finished result not is = (passed (told.Woken phase version) result is, refl, refl)
  are_other (told.Polled left) finished result not is = absurd (not left refl)
  are_other told.Slept finished result not is = (passed told.Slept result is, refl, refl)
  are_other (told.Durable serial) finished result not is = (passed (told.Durable serial) result is, refl, refl)
  are_other (told.Refused why) finished result not is = (passed (told.Refused why) result is, refl, refl)

  pub polled_not : (result : ℤ) → ((left : ℕ) → its ≡ told.Polled left → ⊥) → result ≡ result_of its → IsPolled at before room (to_z w32 (of_z w32 result)) room 0 after
  polled_not result not is = polled_so (to_z w32 (of_z w32 result)) room 0 (are_other its finished result not is)

  -- it has polled
  few : (left : ℕ) → min left 64 < 2 ^ 31
  few left = omega arith

  pub polled_all : (left : ℕ) (list : List Finished) (result : ℕ) (room' : List FinishedRequest) → its ≡ told.Polled left → list ≡ finished → result ≡ min left 64 → room' ≡ map request_of list ++ drop (length list) room
      → IsPolled at before room (to_z w32 result) room' (length list) after
  polled_all left list result room' is same told_as filled =
      polled_so (to_z w32 result) room' (length list) (subst (λ (x : Told). ArePolled (answer_saying x finished) room (to_z w32 result) room' (length list)) (sym is)
      (ap (λ (n : ℕ). to_z w32 n) told_as ∙ to_z_pos w32 (min left 64) (few left), filled ∙ ap (λ (l : List Finished). map request_of l ++ drop (length l) room) same, ap (λ (l : List Finished). length l) same))
