-- Mailboxes: what a session may do to its own, what is given for them, and what they hold.
use Rattle.std.specs.Prelude.{◌≡◌, ◌⊎◌, ℕ, ◌^◌, ◌<◌, ◌==◌, nat_lt, if◌then◌else◌, List, [], ◌∷◌, ◌++◌, slice_get, Option, Some, None, ⊤}
use Rattle.fkv_base.specs.declared.shapes.Shape.{Shape}
use Rattle.fkv_record.specs.Numbers.{spelled}
use Rattle.fkv_record.specs.Places as image
use Rattle.fkv_plane.specs.declared.places.Places.{Places}
use Rattle.fkv_plane.specs.declared.places.SessionWord.{SessionWord}
use Rattle.fkv_plane.specs.declared.places.SessionWord.TheVariants as own
use Rattle.fkv_plane.specs.Places.{session_place}
use Rattle.fkv_plane.specs.Asked.{word_at}
use Rattle.fkv_flush.specs.declared.serving.Mail.{Mail}
use Rattle.fkv_flush.specs.declared.serving.Serving.{Serving}
use Rattle.fkv_flush.specs.declared.serving.Serving.TheVariants as serve
use Rattle.fkv_flush.specs.Serving.{asked_state, ready_state, mail_of, mail_place, gone_mail}
use Rattle.fkv_flush.specs.GuardCalm.{actor_of}
use Rattle.fkv_flush.specs.GuardWorld.{Actor, Work, Serves, ToServe, GuardNow, GuardWorld, GuardEvent, Begins, Moves, Reads, Changes, guard_run}

-- a mailbox in which nothing is asked for
abbrev pub empty_state : ℕ
empty_state = 0

-- what a mailbox has: its state, the address that is asked for, and the words of a record
pub record Mailbox : Type 0 where
  pub state : ℕ
  pub addr : ℕ
  pub mail : Mail

-- a session's mailbox
abbrev pub mailbox_of : List ℕ → ℕ → Mailbox
mailbox_of words session = record {
  state = word_at words (session_place session own.MailState);
  addr = word_at words (session_place session own.MailAddress);
  mail = record {
    header = word_at words (session_place session own.MailHeader);
    key = word_at words (session_place session own.MailKey);
    value = word_at words (session_place session own.MailValue);
  };
}

-- Where the serving machine reads for a session at an address, it reads at the place of that record in the image: there a device shows a flushed record.
abbrev pub ReadsItsPlace : Shape → ℕ → ℕ → Type 0
ReadsItsPlace shape session addr = mail_place shape (serve.Reads session addr) ≡ image.record_place shape addr

-- Bytes that spell three words, as those of a record that a device shows, give a mail with just these.
abbrev pub GivesWords : ℕ → ℕ → ℕ → Type 0
GivesWords header key value =
    header < 2 ^ 64 → key < 2 ^ 64 → value < 2 ^ 64 → mail_of (spelled (header ∷ key ∷ value ∷ [])) ≡ record { header = header; key = key; value = value }

-- What was given for a session: the words of a record that the device has read, or that it is gone; and the address.
pub record MailGiven : Type 0 where
  pub session : ℕ
  pub addr : ℕ
  pub mail : Mail

abbrev pub work_reads : List ℕ → Work → List MailGiven
work_reads bytes (Serves begin (serve.Reads session addr)) = record { session = session; addr = addr; mail = mail_of bytes } ∷ []
work_reads bytes work = []

abbrev pub actor_reads : List ℕ → Option Actor → List MailGiven
actor_reads bytes None = []
actor_reads bytes (Some x) = work_reads bytes x.work

-- where an address below the begin is asked for, it is told that what lay there is gone
abbrev pub gone_at : ℕ → ℕ → ℕ → List MailGiven
gone_at begin session addr = if nat_lt addr begin then record { session = session; addr = addr; mail = gone_mail begin } ∷ [] else []

-- that shows as the address is loaded
abbrev pub work_loads : List ℕ → Work → List MailGiven
work_loads words (Serves begin (serve.LoadsAddress session)) = gone_at begin session (mailbox_of words session).addr
work_loads words work = []

abbrev pub actor_loads : List ℕ → Option Actor → List MailGiven
actor_loads words None = []
actor_loads words (Some x) = work_loads words x.work

-- What an event gives for a mailbox. A read that fails gives nothing.
abbrev pub event_gives : GuardNow → GuardEvent → List MailGiven
event_gives n (Reads actor (Some bytes)) = actor_reads bytes (slice_get n.actors actor)
event_gives n (Moves actor) = actor_loads n.words (slice_get n.actors actor)
event_gives n event = []

-- those of a whole run, the newest first
unfoldable pub mails_given : GuardWorld → List GuardEvent → List MailGiven
mails_given opening [] = []
mails_given opening (event ∷ before) = event_gives (guard_run opening before).now event ++ mails_given opening before

-- what was given for a session last
abbrev pub newest_for : ℕ → List MailGiven → Option MailGiven
newest_for session [] = None
newest_for session (newest ∷ before) = if newest.session == session then Some newest else newest_for session before

-- what was given for the session last was of this address, and was this
abbrev pub WasGiven : List MailGiven → ℕ → ℕ → Mail → Type 0
WasGiven given session addr mail = newest_for session given ≡ Some (record { session = session; addr = addr; mail = mail })

-- A mailbox that is ready has what was given for its session last, and that was of the address asked for.
abbrev pub ReadyWasGiven : List MailGiven → ℕ → Mailbox → Type 0
ReadyWasGiven given session box = box.state ≡ ready_state → WasGiven given session box.addr box.mail

-- a record is asked for in the mailbox, and what was given for the session last was of its address, and was this
abbrev pub HasGiven : List MailGiven → ℕ → Mailbox → Mail → Type 0
HasGiven given session box mail = (box.state ≡ asked_state) × WasGiven given session box.addr mail

-- What the keeper finds in the mailbox that it has come to: a record is asked for there. The address that it has loaded is the mailbox's; what it is to store is
-- what was given for the session last, of that address; and the words that it has stored are those.
abbrev pub FindsAsked : List MailGiven → (ℕ → Mailbox) → Serving → Type 0
FindsAsked given boxes (serve.LoadsAddress session) = (boxes session).state ≡ asked_state
FindsAsked given boxes (serve.Reads session addr) = ((boxes session).state ≡ asked_state) × ((boxes session).addr ≡ addr)
FindsAsked given boxes (serve.StoresHeader session mail) = HasGiven given session (boxes session) mail
FindsAsked given boxes (serve.StoresKey session mail) = HasGiven given session (boxes session) mail × ((boxes session).mail.header ≡ mail.header)
FindsAsked given boxes (serve.StoresValue session mail) = HasGiven given session (boxes session) mail × ((boxes session).mail.header ≡ mail.header) × ((boxes session).mail.key ≡ mail.key)
FindsAsked given boxes (serve.StoresReady session) = HasGiven given session (boxes session) (boxes session).mail
FindsAsked given boxes step = ⊤

-- a session asks where its mailbox is empty, and empties it where it is ready
abbrev pub AsksOrTakes : ℕ → ℕ → Type 0
AsksOrTakes before after = ((before ≡ empty_state) × (after ≡ asked_state)) ⊎ ((before ≡ ready_state) × (after ≡ empty_state))

-- What a change from outside these machines may be in a session's mailbox: the session alone changes the state, as above, and the address while the mailbox is
-- empty. Nobody changes the record's words.
abbrev pub MayChange : ℕ → ℕ → Mailbox → SessionWord → ℕ → Type 0
MayChange actor session box own.MailState word = (actor ≡ session) × AsksOrTakes box.state word
MayChange actor session box own.MailAddress word = (actor ≡ session) × (box.state ≡ empty_state)
MayChange actor session box own.MailHeader word = ⊥
MayChange actor session box own.MailKey word = ⊥
MayChange actor session box own.MailValue word = ⊥
MayChange actor session box its_word word = ⊤

abbrev pub KeepsMailboxes : GuardNow → GuardEvent → Type 0
KeepsMailboxes n (Changes actor place word) = (session : ℕ) (its_word : SessionWord) → session < n.places.sessions → place ≡ session_place session its_word → MayChange actor session (mailbox_of n.words session) its_word word
KeepsMailboxes n event = ⊤

-- no other actor begins to serve
abbrev pub ServesAlone : ℕ → GuardEvent → Type 0
ServesAlone keeper (Begins actor (ToServe begin)) = actor ≡ keeper
ServesAlone keeper event = ⊤

-- in a whole run one actor alone serves, and each session alone changes its mailbox, as it may
abbrev pub AreMailboxesKept : ℕ → GuardWorld → List GuardEvent → Type 0
AreMailboxesKept keeper opening [] = ⊤
AreMailboxesKept keeper opening (event ∷ before) = ServesAlone keeper event × KeepsMailboxes (guard_run opening before).now event × AreMailboxesKept keeper opening before

-- in a store that is just opened nothing is asked for
abbrev pub AreEmpty : Places → List ℕ → Type 0
AreEmpty places words = (session : ℕ) → session < places.sessions → (mailbox_of words session).state ≡ empty_state

-- what a session does to its mailbox: while it is empty it stores the address and asks, and where it is ready it empties it
abbrev pub AskerChanges : Mailbox → Mailbox → Type 0
AskerChanges before after =
    ((before.state ≡ empty_state) × (after ≡ record before { addr = after.addr }))
    ⊎ (AsksOrTakes before.state after.state × (after ≡ record before { state = after.state }))

-- what the keeper does to a mailbox in which a record is asked for: it stores a word of the record, or that the record is ready
abbrev pub KeeperChanges : Mailbox → Mailbox → Type 0
KeeperChanges before after = (before.state ≡ asked_state) × ((after ≡ record before { mail = after.mail }) ⊎ (after ≡ record before { state = ready_state }))

-- A mailbox that is empty or ready is changed by its session alone, and one in which a record is asked for by the keeper alone.
abbrev pub ChangesMailbox : ℕ → ℕ → GuardEvent → Mailbox → Mailbox → Type 0
ChangesMailbox keeper session event before after =
    (after ≡ before) ⊎ (((actor_of event ≡ Some session) × AskerChanges before after) ⊎ ((event ≡ Moves keeper) × KeeperChanges before after))
