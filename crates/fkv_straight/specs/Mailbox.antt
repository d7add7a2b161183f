-- Where a read stands that waits for a record of the device, by the session's mailbox: in its call, and in a poll in which it alone waits.
use Rattle.std.specs.Prelude.{◌≡◌, ◌<◌, ◌≤◌, ℕ, Bool, true, false, Some, None, [], ◌∷◌, ◌++◌}
use Rattle.fkv_ops.specs.declared.answers.DiskRecord.{DiskRecord}
use Rattle.fkv_ops.specs.declared.requests.Occasion.TheVariants.{Poll as AtPoll}
use Rattle.fkv_ops.specs.Requests.{is_read}
use Rattle.fkv_ops.specs.Trying.{TryState}
use Rattle.fkv_pending.specs.declared.attempting.Attempting.TheVariants.{Looks as AtLook, Puts as AtPut}
use Rattle.fkv_pending.specs.declared.mailing.MailAnswer.TheVariants.{Taken}
use Rattle.fkv_pending.specs.declared.mailing.MailRecord.{MailRecord}
use Rattle.fkv_pending.specs.declared.mailing.Mailing.{Mailing}
use Rattle.fkv_pending.specs.declared.mailing.Mailing.TheVariants.{StoresEmpty}
use Rattle.fkv_pending.specs.declared.pending_requests.PendingRequest.{PendingRequest}
use Rattle.fkv_pending.specs.declared.pending_requests.RequestName.TheVariants.{Read}
use Rattle.fkv_pending.specs.Attempting.{AttemptState, new_attempt}
use Rattle.fkv_session.specs.declared.answers.Told.TheVariants.{PendingRead}
use Rattle.fkv_session.specs.declared.sessions.Sitting.TheVariants.{Polls}
use Rattle.fkv_session.specs.Alike.{Lasting}
use Rattle.fkv_session.specs.Sessions.{Seat, SessionState, bits_of, ticket_after}
use Rattle.fkv_straight.specs.declared.mailbox.Asker.{Asker}
use Rattle.fkv_straight.specs.Course.{Course, head_in, floor_in, pending_in}
use Rattle.fkv_straight.specs.Met.{IsReached}
use Rattle.fkv_straight.specs.Standing.{IsEnded, attempting, leads, sitting}

-- ---- in its call
-- its chain leaves memory at this record
abbrev pub IsAway : Course → DiskRecord → SessionState → Type 0
IsAway c sought s = (place : ℕ) × (0 < sought.addr.0) × (sought.addr.0 < head_in c) × IsReached c place sought.entry sought.addr.0 s

-- and it doesn't lie below the session's floor, so the read asks for it
abbrev pub IsSought : Course → DiskRecord → SessionState → Type 0
IsSought c sought s = (place : ℕ) × (0 < sought.addr.0) × (sought.addr.0 < head_in c) × (floor_in c ≤ sought.addr.0) × IsReached c place sought.entry sought.addr.0 s

-- the read as a request that waits for this record, whose address is in the mailbox or isn't
abbrev pub seeking_in : Course → DiskRecord → Bool → PendingRequest
seeking_in c sought has_asked = record (pending_in c) { sought = Some sought; has_asked = has_asked }

-- the attempt of it whose try has ended, and which puts the address into the mailbox
abbrev pub putting : Course → TryState → DiskRecord → Mailing → AttemptState
putting c t sought m = record (attempting c t) { pending = seeking_in c sought false; mailing = m; step = AtPut }

unfoldable pub Puts : Course → DiskRecord → Mailing → SessionState → Type 0
Puts c sought m s = (t : TryState) × (asks : ℕ) × (s ≡ sitting c asks (putting c t sought m))

-- the call has ended: the read waits by the next ticket
abbrev pub lasts_asking : Course → DiskRecord → Bool → Lasting
lasts_asking c sought has_asked = record c.lasts { ticket = ticket_after c.lasts.ticket; requests = c.lasts.requests ++ seeking_in c sought has_asked ∷ [] }

abbrev pub IsAsking : Course → DiskRecord → Bool → SessionState → Type 0
IsAsking c sought has_asked s = IsEnded (lasts_asking c sought has_asked) (PendingRead (record { 0 = ticket_after c.lasts.ticket })) s

-- ---- in a poll in which it alone waits
-- A poll may look into the mailbox for it straight: it has asked there, and the session is awake, and has no record on its way that nobody waits for. Its floor isn't
-- above the session's.
pub record MayLook (s : SessionState) (its : Asker) : Type 0 where
  pub waits : s.requests ≡ its.pending ∷ []
  pub named : its.pending.name ≡ Read its.ticket
  pub reads : is_read its.pending.request.op ≡ true
  pub seeks : its.pending.sought ≡ Some its.sought
  pub has_asked : its.pending.has_asked ≡ true
  pub floor : its.pending.request.floor.0 ≤ s.floor.0
  pub awake : s.is_awake ≡ true
  pub no_orphan : s.is_orphaned ≡ false

-- the session whose poll attempts that request so, after some count of asks
abbrev pub polling : SessionState → PendingRequest → ℕ → AttemptState → SessionState
polling s its asks a = record s { requests = its ∷ []; is_orphaned = false; wants_turn = false; asks = asks; effect = None; finished = []; attempt = a; step = Polls 0 }

-- the attempt that looks into the mailbox, and the one that puts the address of another record there, behind that
abbrev pub looking : Seat → SessionState → PendingRequest → Mailing → AttemptState
looking k s its m = record (new_attempt (bits_of k) its s.seen AtPoll s.spare false) { mailing = m; step = AtLook }

abbrev pub putting_on : Seat → SessionState → PendingRequest → DiskRecord → Mailing → AttemptState
putting_on k s its sought m = record (looking k s its m) { pending = record its { sought = Some sought; has_asked = false }; is_emptied = true; step = AtPut }

unfoldable pub Looks : Seat → SessionState → PendingRequest → Mailing → SessionState → Type 0
Looks k s its m u = (asks : ℕ) × (u ≡ polling s its asks (looking k s its m))

unfoldable pub PutsOn : Seat → SessionState → PendingRequest → DiskRecord → Mailing → SessionState → Type 0
PutsOn k s its sought m u = (asks : ℕ) × (u ≡ polling s its asks (putting_on k s its sought m))

-- the record is taken from the mailbox, and isn't judged yet
unfoldable pub HasTaken : Seat → SessionState → PendingRequest → MailRecord → SessionState → Type 0
HasTaken k s its taken u = (w : SessionState) × (reply : ℕ) × Looks k s its (StoresEmpty (Taken taken)) w × (u ≡ leads k w reply)
