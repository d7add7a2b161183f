-- The words of a store that opens. It rests in the version behind its commit's, its whole log is on the device, and its sessions are awake.
use Rattle.std.specs.Prelude.{◌≡◌, ℕ, ◌+◌, ◌*◌, ◌/◌, ◌%◌, min, map, slice_index, nat_eq, if◌then◌else◌}
use Rattle.fkv_base.specs.declared.phases.Phase.TheVariants.{Rest}
use Rattle.fkv_marks.specs.Marks.{mark}
use Rattle.fkv_words.specs.declared.cut_word.CutWord.{CutWord}
use Rattle.fkv_opening.specs.declared.opened_store.Opened.{Opened}
use Rattle.fkv_opening.specs.declared.opening_words.OpeningWords.{OpeningWords}
use Rattle.fkv_opening.specs.declared.opening_words.SessionWords.{SessionWords}

-- the point of a session
abbrev pub point_of : Opened → ℕ → ℕ
point_of opened session = slice_index (map (λ point. point.0) opened.points.items) session

-- Where the room ends that is open to new records: the page of the tail and the next one are, as far as the device has them.
abbrev pub opening_limit : Opened → ℕ
opening_limit opened = min (opened.tail.0 / opened.shape.page + 2) opened.shape.disk_pages * opened.shape.page

-- epoch 1 and none safe, at rest, all offsets of the log at its end but for those from which memory has its records, and the drain slots free
pub record AreOpeningWords (opened : Opened) (words : OpeningWords) : Type 0 where
  pub epoch : words.epoch ≡ 1
  pub safe_epoch : words.safe_epoch ≡ 0
  pub version : words.phase.version.0 ≡ opened.number.0 + 1
  pub phase : words.phase.phase ≡ Rest
  pub tail : words.tail ≡ opened.tail
  pub limit : words.limit.0 ≡ opening_limit opened
  pub read_only : words.read_only ≡ opened.tail
  pub safe_read_only : words.safe_read_only ≡ opened.tail
  pub flushed : words.flushed ≡ opened.tail
  pub head : words.head ≡ opened.warm
  pub closed : words.closed ≡ opened.warm
  pub drain : words.drain ≡ 0

-- the cut word of a parity: the mark of the commit's number and the session's point where that is the commit's parity, else nothing
pub record IsOpeningCut (opened : Opened) (session parity : ℕ) (cut : CutWord) : Type 0 where
  pub version : cut.version.0 ≡ (if nat_eq (opened.number.0 % 2) parity then mark opened.number.0 else 0)
  pub serial : cut.serial.0 ≡ (if nat_eq (opened.number.0 % 2) parity then point_of opened session else 0)

-- protected in epoch 1, cut at the commit, owing nothing, durable up to its point, with an empty mailbox
pub record AreSessionWords (opened : Opened) (session : ℕ) (words : SessionWords) : Type 0 where
  pub epoch : words.epoch ≡ 1
  pub even_cut : IsOpeningCut opened session 0 words.even_cut
  pub odd_cut : IsOpeningCut opened session 1 words.odd_cut
  pub owing : words.owing ≡ 0
  pub durable : words.durable.0 ≡ point_of opened session
  pub mail_state : words.mail_state ≡ 0
  pub mail_address : words.mail_address ≡ 0
  pub mail_header : words.mail_header ≡ 0
  pub mail_key : words.mail_key ≡ 0
  pub mail_value : words.mail_value ≡ 0
