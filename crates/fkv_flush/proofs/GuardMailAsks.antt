-- Which changes from outside keep the mailboxes: those that a session may make of its own, and those of no mailbox's word.
use Rattle.std.proofs.Common.{◌≡◌, ℕ, ◌<◌, refl, sym, subst, arith}
use Rattle.fkv_plane.specs.declared.places.SessionWord.{SessionWord}
use Rattle.fkv_plane.specs.declared.places.SessionWord.TheVariants as own
use Rattle.fkv_plane.specs.Places.{session_number, session_place}
use Rattle.fkv_flush.specs.GuardMail.{mailbox_of, MayChange, KeepsMailboxes}
use Rattle.fkv_flush.specs.GuardWorld.{GuardNow, Changes}
use Rattle.fkv_flush.proofs.GuardMailPlaces.{IsMail}

number_small : (word : SessionWord) → session_number word < 16
number_small own.Epoch = omega arith
number_small own.EvenCut = omega arith
number_small own.OddCut = omega arith
number_small own.Owing = omega arith
number_small own.Durable = omega arith
number_small own.MailState = omega arith
number_small own.MailAddress = omega arith
number_small own.MailHeader = omega arith
number_small own.MailKey = omega arith
number_small own.MailValue = omega arith

number_same : (word other : SessionWord) → session_number word ≡ session_number other → word ≡ other
number_same own.Epoch own.Epoch e = refl
number_same own.EvenCut own.EvenCut e = refl
number_same own.OddCut own.OddCut e = refl
number_same own.Owing own.Owing e = refl
number_same own.Durable own.Durable e = refl
number_same own.MailState own.MailState e = refl
number_same own.MailAddress own.MailAddress e = refl
number_same own.MailHeader own.MailHeader e = refl
number_same own.MailKey own.MailKey e = refl
number_same own.MailValue own.MailValue e = refl
number_same word other e = absurd (omega (arith, e))

-- a session's change of its own word
pub keeps_own : (n : GuardNow) (session : ℕ) (its_word : SessionWord) (word : ℕ) → MayChange session session (mailbox_of n.words session) its_word word → KeepsMailboxes n (Changes session (session_place session its_word) word)
keeps_own n session its_word word may = λ other named few e.
    let low = number_small its_word in
    let low_too = number_small named in
    let same : other ≡ session = omega (arith, e, low, low_too) in
    let same_word : named ≡ its_word = number_same named its_word (omega (arith, e, same)) in
    subst (λ (s : ℕ). MayChange session s (mailbox_of n.words s) named word) (sym same)
    (subst (λ (w : SessionWord). MayChange session session (mailbox_of n.words session) w word) (sym same_word) may)

-- a change of a word that is no mailbox's
pub keeps_other : (n : GuardNow) (a place word : ℕ) → ((session : ℕ) → session < n.places.sessions → IsMail session place → ⊥) → KeepsMailboxes n (Changes a place word)
keeps_other n a place word apart = by
  where
    by : KeepsMailboxes n (Changes a place word)
    by session own.MailState few e = absurd (apart session few (omega (arith, e), omega (arith, e)))
    by session own.MailAddress few e = absurd (apart session few (omega (arith, e), omega (arith, e)))
    by session own.MailHeader few e = apart session few (omega (arith, e), omega (arith, e))
    by session own.MailKey few e = apart session few (omega (arith, e), omega (arith, e))
    by session own.MailValue few e = apart session few (omega (arith, e), omega (arith, e))
    by session its_word few e = tt
