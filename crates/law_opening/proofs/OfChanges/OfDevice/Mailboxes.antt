-- The words of an opened store say for each session what it is opened with, and nothing is asked for in a mailbox.
use Rattle.std.proofs.Common.{refl, arith, ℕ, ◌%◌, ◌^◌, ◌<◌, ◌≤◌, Bool, true, false, length}
use Rattle.std.specs.Prelude.{if◌then◌else◌, nat_eq}
use Rattle.std.proofs.lemmas.List.{get_or-map}
use Rattle.std.proofs.lemmas.List.Elements.{All-get_or}
use Rattle.fkv_base.specs.Limits.{last_serial}
use Rattle.fkv_base.specs.declared.numbers.Serial.{Serial}
use Rattle.fkv_marks.specs.Marks.{mark}
use Rattle.fkv_marks.proofs.Shown.{mark_fits}
use Rattle.fkv_core.specs.OpeningPlaces.{StandAsTold}
use Rattle.fkv_core.specs.Openings.{IsOpeningWorld}
use Rattle.law_refine.specs.Below.fkv_flush.GuardMail.{AreEmpty}
use Rattle.law_paper.specs.Below.fkv_opening.Opening.{AreSessionWords, point_of}
use Rattle.law_paper.specs.Below.fkv_opening.TheOpened.{Opened}
use Rattle.law_paper.specs.Below.fkv_opening.SessionWords.{SessionWords}
use Rattle.fkv_words.specs.declared.cut_word.CutWord.{CutWord}
use Rattle.law_refine.specs.Below.fkv_world.World.{Now}

pub point_small : (o : Opened) (session : ℕ) → session < o.shape.sessions → point_of o session < 2 ^ 48
point_small o session there =
    let many = o.each_session in
    let within : session < length o.points.items = omega (arith, many, there) in
    let none : Serial = record { 0 = 0 } in
    let small = All-get_or (λ (point : Serial). point.0 ≤ last_serial) o.points.items session none within o.small_points in
    let same = get_or-map (λ (point : Serial). point.0) o.points.items session none 0 within in
    omega (arith, small, same)

pub either_small : (b : Bool) (m most : ℕ) → m < most → 0 < most → (if b then m else 0) < most
either_small true m most small some = small
either_small false m most small some = some

-- what the opened store tells of a session's words
abbrev pub cut_told : (o : Opened) (session parity : ℕ) → session < o.shape.sessions → CutWord
cut_told o session parity there = record {
  serial = record { 0 = if nat_eq (o.number.0 % 2) parity then point_of o session else 0 };
  version = record { 0 = if nat_eq (o.number.0 % 2) parity then mark o.number.0 else 0 };
  serial_fits = either_small (nat_eq (o.number.0 % 2) parity) (point_of o session) (2 ^ 48) (point_small o session there) (omega arith);
  version_fits = either_small (nat_eq (o.number.0 % 2) parity) (mark o.number.0) (2 ^ 13) (mark_fits o.number.0) (omega arith);
}

abbrev pub words_told : (o : Opened) (session : ℕ) → session < o.shape.sessions → SessionWords
words_told o session there = record {
  epoch = 1;
  even_cut = cut_told o session 0 there;
  odd_cut = cut_told o session 1 there;
  owing = 0;
  durable = record { 0 = point_of o session };
  mail_state = 0;
  mail_address = 0;
  mail_header = 0;
  mail_key = 0;
  mail_value = 0;
}

pub are_told : (o : Opened) (session : ℕ) (there : session < o.shape.sessions) → AreSessionWords o session (words_told o session there)
are_told o session there = record {
  epoch = refl;
  even_cut = record { version = refl; serial = refl };
  odd_cut = record { version = refl; serial = refl };
  owing = refl;
  durable = refl;
  mail_state = refl;
  mail_address = refl;
  mail_header = refl;
  mail_key = refl;
  mail_value = refl;
}

pub mailboxes_empty : (o : Opened) (n : Now) → IsOpeningWorld o n → StandAsTold o n.words → AreEmpty n.places n.words
mailboxes_empty o n its told = λ session there.
    let many = its.its_places.sessions in
    let within : session < o.shape.sessions = omega (arith, many, there) in
    (told.sessions session (words_told o session within) within (are_told o session within)).mail_state
