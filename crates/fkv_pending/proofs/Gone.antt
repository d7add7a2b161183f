-- What a mailbox's answer tells whose record is gone, and what it leaves.
use Rattle.std.proofs.Common.{◌≡◌, refl, sym, ap, ◌∙◌, eqb-true, Bool, true, false}
use Rattle.std.specs.Prelude.{Option, Some, None}
use Rattle.fkv_ops.specs.declared.answers.DiskRecord.{DiskRecord}
use Rattle.fkv_base.specs.declared.numbers.Addr.{Addr}
use Rattle.fkv_base.specs.declared.numbers.Version.{Version}
use Rattle.fkv_ops.specs.declared.header_words.HeaderSaid.TheVariants.{Says, Spoiled}
use Rattle.fkv_ops.specs.HeaderWords.{header_said}
use Rattle.fkv_pending.specs.declared.mailing.MailRecord.{MailRecord}
use Rattle.fkv_pending.specs.declared.pending_requests.PendingRequest.{PendingRequest}
use Rattle.fkv_pending.specs.Mailing.{is_gone, begin_told}
use Rattle.fkv_pending.specs.Attempts.{HoldsMail, floor_behind, sought_behind, held_behind}

zero_spoiled : header_said 0 ≡ Spoiled
unfolding header_said
zero_spoiled = refl

never : {previous : Addr} {version : Version} → Spoiled ≡ Says previous version → ⊥
never e = cc

-- a header that says something is another's
pub there_said : (its : MailRecord) (previous : Addr) (version : Version) → header_said its.header ≡ Says previous version → is_gone its ≡ false
there_said its previous version said = tested (is_gone its) refl
  where
    tested : (b : Bool) → is_gone its ≡ b → b ≡ false
    tested true gone = absurd (never (sym zero_spoiled ∙ (ap header_said (sym (eqb-true its.header 0 gone)) ∙ said)))
    tested false there = refl

-- its header is none
pub gone_spoiled : (its : MailRecord) → is_gone its ≡ true → header_said its.header ≡ Spoiled
gone_spoiled its gone = ap header_said (eqb-true its.header 0 gone) ∙ zero_spoiled

pub holds_none : (sought : Option DiskRecord) (its : MailRecord) → HoldsMail sought its Spoiled None
holds_none None its = refl
holds_none (Some sought) its = refl

-- a record that is gone raises the floor, and nothing is sought or held any more
pub floor_raised : (first : PendingRequest) (its : MailRecord) → is_gone its ≡ true → begin_told its ≡ floor_behind first (Some its)
floor_raised first its gone = rw gone refl

pub sought_lost : (first : PendingRequest) (its : MailRecord) → is_gone its ≡ true → None ≡ sought_behind first (Some its)
sought_lost first its gone = rw gone refl

pub held_lost : (first : PendingRequest) (its : MailRecord) → is_gone its ≡ true → None ≡ held_behind first (Some its)
held_lost first its gone = rw gone refl

-- any other leaves them
pub floor_stays : (first : PendingRequest) (its : MailRecord) → is_gone its ≡ false → first.request.floor ≡ floor_behind first (Some its)
floor_stays first its there = rw there refl

pub sought_stays : (first : PendingRequest) (its : MailRecord) → is_gone its ≡ false → first.sought ≡ sought_behind first (Some its)
sought_stays first its there = rw there refl

pub held_stays : (first : PendingRequest) (its : MailRecord) → is_gone its ≡ false → first.request.held ≡ held_behind first (Some its)
held_stays first its there = rw there refl
