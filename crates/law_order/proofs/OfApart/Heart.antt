-- No update takes effect at a home at which one of an older version shares its latch, unless a later version stands there already.
use Rattle.std.proofs.Common.{◌≡◌, inl, inr, ℕ, ◌^◌, ◌<◌, refl, sym, ap, ◌∙◌, subst, arith, eqb-true, Bool, true, false, List, Some}
use Rattle.std.specs.Prelude.{◌==◌, ◌&&◌, slice_get}
use Rattle.std.proofs.lemmas.Bool.Decides.{nat_tests}
use Rattle.fkv_base.specs.declared.numbers.Key.{Key}
use Rattle.fkv_index.specs.declared.homes.Home.{Home}
use Rattle.fkv_index.specs.Slots.{home_of}
use Rattle.fkv_map.specs.declared.history.HistoryEntry.{HistoryEntry}
use Rattle.fkv_map.specs.declared.operations.Op.{Op}
use Rattle.fkv_map.specs.declared.operations.Reply.{Reply}
use Rattle.fkv_map.specs.Keys.{key_of}
use Rattle.law_commit.specs.Below.fkv_log.TheInvalidating.{Invalidating}
use Rattle.law_commit.specs.Below.fkv_log.TheInvalidating.TheVariants as invalidating
use Rattle.law_commit.specs.Below.fkv_ops.TheAppending.{Appending}
use Rattle.law_commit.specs.Below.fkv_ops.TheAppending.TheVariants as appending
use Rattle.law_commit.specs.Below.fkv_ops.Request.{Request}
use Rattle.law_commit.specs.Below.fkv_ops.Seen.{Seen}
use Rattle.law_commit.specs.Below.fkv_ops.TheTrying.{Trying}
use Rattle.law_commit.specs.Below.fkv_ops.TheTrying.TheVariants.{Appends}
use Rattle.law_commit.specs.Below.fkv_ops.Appending.{AppendState}
use Rattle.law_commit.specs.Below.fkv_ops.Requests.{is_read}
use Rattle.law_commit.specs.Below.fkv_ops.Trying.{TryState, is_moving_on}
use Rattle.law_commit.specs.Below.fkv_pending.TheAttempting.{Attempting}
use Rattle.law_commit.specs.Below.fkv_pending.TheAttempting.TheVariants.{Tries}
use Rattle.law_commit.specs.Below.fkv_pending.Attempting.{AttemptState}
use Rattle.fkv_plane.specs.Places.{bucket_place}
use Rattle.law_commit.specs.Below.fkv_session.Sitting.{Sitting}
use Rattle.law_commit.specs.Below.fkv_session.Sitting.TheVariants.{Attempts, Polls}
use Rattle.law_commit.specs.Below.fkv_session.Sessions.{Seat, SessionState, bits_of}
use Rattle.law_commit.specs.Below.fkv_session.Shares.{latch_of}
use Rattle.law_commit.specs.Below.fkv_world.Opened.{HasBecome}
use Rattle.law_commit.specs.Below.fkv_world.Runs.{run}
use Rattle.law_commit.specs.Below.fkv_world.World.{Event, Now, seat_at}
use Rattle.law_commit.proofs.Below.fkv_world.Shown.{places_stay, shape_stays}
use Rattle.fkv_epoch.proofs.Shown.{none_some, some_same}
use Rattle.law_apart.specs.Apart.Rows.{AttemptApart, CopiesApart, CopiesRow, MovesOn, TryApart}
use Rattle.law_apart.proofs.OfApart.Raises.{StandsAlready}
use Rattle.law_opening.proofs.OfChanges.OfSessions.Attempting.{life_attempts}
use Rattle.law_commit.specs.Below.law_local.Sessions.Inputs.{AttemptsBy, IsTryFor, TriesFor}
use Rattle.law_commit.specs.Below.law_local.Sessions.Known.{is_attempting}
use Rattle.law_commit.specs.Below.law_local.Tries.AttemptRows.{AttemptRow}
use Rattle.law_commit.specs.Below.law_local.Tries.AttemptRows as local
use Rattle.law_commit.specs.Below.law_local.Tries.TryRows.{TryRow, cell_of, key_in}
use Rattle.law_log.specs.Chains.{Cell, Reserved, version_at}
use Rattle.law_log.specs.Ghosts.{Log}
use Rattle.law_log.specs.Enabled.{AreChains}
use Rattle.law_log.specs.Trace.{IsIn}
use Rattle.law_order.specs.Apart.Given.{Given}
use Rattle.law_order.specs.Apart.Lives.{KeepsApart, OpensApart}
use Rattle.law_order.specs.Known.Begins.{BegunLife, home_of_world}
use Rattle.law_order.specs.Known.Knows.{SessionKnows}
use Rattle.law_order.proofs.OfApart.Along.{PublishesApart}
use Rattle.law_order.proofs.OfApart.Moments.{attempt_settled, gone}
use Rattle.law_order.proofs.OfApart.Sharers.{makes_alone, same_latch}
use Rattle.law_commit.specs.Below.law_refine.Latches.InTries.{session_held}
use Rattle.law_commit.specs.Below.law_refine.Latches.Latchers.{its_latch}
use Rattle.law_commit.specs.Below.law_refine.Events.Effects.{PublishesIt, mover_step}
use Rattle.law_commit.specs.Below.law_refine.Events.GhostEvents.{home_in, life_ghosts}
use Rattle.law_commit.specs.Below.law_refine.Events.Reservations.{Reservation, append_reserves, attempt_reserves, invalidate_reserves, try_reserves}
use Rattle.law_commit.specs.Below.law_refine.Events.Reserved.{reserved_by, sitting_reserves}
use Rattle.law_commit.specs.Below.law_refine.Events.Appends.{NewRecord, new_record}
use Rattle.law_commit.proofs.Below.law_refine.OfEvents.RequestNames.{IsAttemptSo, StepIsSo, TriesAt, life_so}
use Rattle.law_commit.proofs.Below.law_refine.OfEvents.ReservedLife.{life_reserved}
use Rattle.law_commit.proofs.Below.law_refine.OfEvents.TryAppends.{IsAppendOf, KnowsAt}
use Rattle.law_commit.proofs.Below.law_refine.OfSeen.There.{was_there}

-- ---- who has reserved an address makes a new record
made_by : (a : AppendState) (made : NewRecord) (step : Appending) (its : Reservation) → append_reserves a made step ≡ Some its → its.cell ≡ cell_of made.version a.its_words
made_by a made (appending.Ended told) its e = none_some its e
made_by a made appending.Reserves its e = none_some its e
made_by a made (appending.Fills addr) its e = ap (λ (r : Reservation). r.cell) (sym (some_same _ its e))
made_by a made (appending.Publishes addr) its e = ap (λ (r : Reservation). r.cell) (sym (some_same _ its e))
made_by a made appending.Invalidates its e = by_step a.invalidating e
  where
    by_step : (step : Invalidating) → invalidate_reserves a made step ≡ Some its → its.cell ≡ cell_of made.version a.its_words
    by_step invalidating.AtRest e = none_some its e
    by_step (invalidating.StoresHeader addr header) e = ap (λ (r : Reservation). r.cell) (sym (some_same _ its e))

pub record Makes (s : SessionState) : Type 0 where
  pub attempts : is_attempting s.step ≡ true
  pub tries : s.attempt.step ≡ Tries
  pub reply : Reply
  pub appends : s.attempt.trial.step ≡ Appends reply

pub record Making (s : SessionState) (its : Reservation) : Type 0 where
  pub makes : Makes s
  pub its_cell : its.cell ≡ cell_of s.attempt.pending.request.version.0 s.attempt.trial.append.its_words

try_making : (number : ℕ) (s : SessionState) (step : Trying) (its : Reservation) → is_attempting s.step ≡ true → s.attempt.step ≡ Tries → s.attempt.trial.step ≡ step → try_reserves number s.attempt.pending s.attempt.trial step ≡ Some its → Making s its
try_making number s (Appends reply) its attempts tries at e = record { makes = record { attempts = attempts; tries = tries; reply = reply; appends = at }; its_cell = made_by s.attempt.trial.append (new_record number s.attempt.pending reply) s.attempt.trial.append.step its e }
try_making number s step its attempts tries at e = none_some its e

attempt_making : (number : ℕ) (s : SessionState) (step : Attempting) (its : Reservation) → is_attempting s.step ≡ true → s.attempt.step ≡ step → attempt_reserves number s.attempt step ≡ Some its → Making s its
attempt_making number s Tries its attempts at e = try_making number s s.attempt.trial.step its attempts at refl e
attempt_making number s step its attempts at e = none_some its e

sitting_making : (number : ℕ) (s : SessionState) (step : Sitting) (its : Reservation) → s.step ≡ step → sitting_reserves number s step ≡ Some its → Making s its
sitting_making number s (Attempts has_shifted) its at e = attempt_making number s s.attempt.step its (ap is_attempting at) refl e
sitting_making number s (Polls index) its at e = attempt_making number s s.attempt.step its (ap is_attempting at) refl e
sitting_making number s step its at e = none_some its e

pub making_of : (number : ℕ) (s : SessionState) (its : Reservation) → reserved_by number s ≡ Some its → Making s its
making_of number s its e = sitting_making number s s.step its refl e

-- ---- an attempt goes by what its session has seen, and so does its try
goes_so : (k : Seat) (s : SessionState) (step : Sitting) → is_attempting step ≡ true → AttemptsBy k s step → (s.attempt.seen ≡ s.seen) × TriesFor (bits_of k) s.attempt s.attempt.step
goes_so k s (Attempts has_shifted) attempts so = (so.goes.its_seen, so.goes.its_try)
goes_so k s (Polls index) attempts so = (so.goes.its_seen, so.goes.its_try)
goes_so k s step attempts so = cc

attempts_so : (a : AttemptState) (step : Sitting) → is_attempting step ≡ true → StepIsSo a step → IsAttemptSo a
attempts_so a (Attempts has_shifted) attempts so = so
attempts_so a (Polls index) attempts so = so
attempts_so a step attempts so = cc

module _ (given : Given) (life : BegunLife) (apart : OpensApart life) (before : List Event) where
  abbrev N : Now
  N = (run life.opening before).now

  abbrev L : Log
  L = (life_ghosts life.opening life.ghosts before).log

  abbrev H : ℕ → ℕ
  H = home_of_world life.opening

  pub became : (session : ℕ) (s : SessionState) → slice_get N.sessions session ≡ Some s → (first : SessionState) × HasBecome life.opening before session first s
  became session s found = let there = was_there life.opening before session s found in (there.first, record { opened = life.begins.world; was = there.was; is_now = found })

  -- the last version of which no update is left
  abbrev pub gone_now : ℕ
  gone_now = gone given.floors given.left life.opening life.start before apart.quiet

  pub seen_in : (session : ℕ) (s : SessionState) → slice_get N.sessions session ≡ Some s → is_attempting s.step ≡ true → s.attempt.seen ≡ s.seen
  seen_in session s found attempts = (goes_so (seat_at life.opening.now session) s s.step attempts (life_attempts life.opening before session s life.begins.world found)).0

  pub try_in : (session : ℕ) (s : SessionState) → slice_get N.sessions session ≡ Some s → is_attempting s.step ≡ true → s.attempt.step ≡ Tries → IsTryFor life.opening.now.shape.bucket_bits s.attempt.pending.request s.attempt.seen s.attempt.occasion s.attempt.trial
  try_in session s found attempts tries =
      subst (TriesFor life.opening.now.shape.bucket_bits s.attempt) tries (goes_so (seat_at life.opening.now session) s s.step attempts (life_attempts life.opening before session s life.begins.world found)).1

  -- A request that shares its latch now: its home, its version, and whose it is.
  pub record Sharer (h w : ℕ) : Type 0 where
    pub session : ℕ
    pub state : SessionState
    pub got : slice_get N.sessions session ≡ Some state
    pub op : Op
    pub its_home : h ≡ H (key_of op).0
    pub left : gone_now < w
    pub held : 0 < session_held (seat_at N session) (latch_of N.places N.shape.bucket_bits op) state state.step

  module _ (number : ℕ) (s : SessionState) (found : slice_get N.sessions number ≡ Some s) (known : SessionKnows H L s) (is_apart : KeepsApart life.opening life.ghosts before s) (chains : AreChains H L) where
    -- the record that it makes
    module _ (making : Makes s) where
      abbrev t : TryState
      t = s.attempt.trial

      abbrev request : Request
      request = s.attempt.pending.request

      row : local.TriesFor H L s.attempt.pending s.attempt.seen t
      row = subst (AttemptRow H L s.attempt) making.tries (known.attempted making.attempts).row

      is_update : is_read request.op ≡ false
      is_update = subst (λ (r : Request). is_read r.op ≡ false) row.its_request (subst (TryRow H L t) making.appends row.knows.row).0

      same_seen : t.seen ≡ s.seen
      same_seen = row.its_seen ∙ seen_in number s found making.attempts

      -- its latch is that of its key's bucket
      latch_is : its_latch N.places t ≡ latch_of N.places N.shape.bucket_bits request.op
      latch_is = ap (λ (h : Home). bucket_place N.places h.bucket 7) ((try_in number s found making.attempts making.tries).its_home ∙ ap (λ (bits : ℕ). home_of bits (key_of request.op)) (sym (ap (λ (shape : _). shape.bucket_bits) (shape_stays life.opening before))))

      -- where another shares the latch it isn't held alone
      never_alone : (op : Op) (other : ℕ) (state : SessionState) → slice_get N.sessions other ≡ Some state → H (key_in request) ≡ H (key_of op).0 → t.has_exclusive ≡ true → 0 < session_held (seat_at N other) (latch_of N.places N.shape.bucket_bits op) state state.step → ⊥
      never_alone op other state got same alone held =
          let bits : N.shape.bucket_bits ≡ life.opening.now.shape.bucket_bits = ap (λ (shape : _). shape.bucket_bits) (shape_stays life.opening before) in
          let buckets : N.places.buckets ≡ 2 ^ N.shape.bucket_bits = rw (places_stay life.opening before, shape_stays life.opening before) life.begins.store.now.buckets in
          let place : its_latch N.places t ≡ latch_of N.places N.shape.bucket_bits op = latch_is ∙ same_latch N.places N.shape.bucket_bits request.op op buckets (subst (λ (b : ℕ). home_in b (key_of request.op).0 ≡ home_in b (key_of op).0) (sym bits) same) in
          let none = given.beside life.opening before (its_latch N.places t) number other s state apart.latches found got (makes_alone N.places s making.reply making.attempts making.tries alone making.appends) in
          let here : session_held (seat_at N other) (latch_of N.places N.shape.bucket_bits op) state state.step ≡ 0 = subst (λ (at : ℕ). session_held (seat_at N other) at state state.step ≡ 0) place none in
          omega (arith, held, here)

      moves_not : (moving : Bool) (w v : ℕ) → (moving && w == v) ≡ false → moving ≡ true → w ≡ v → ⊥
      moves_not true w v e is same = absurd (grind (arith, nat_tests, e, same))
      moves_not false w v e is same = cc

      moves_so : (moving : Bool) (w v : ℕ) → (moving && w == v) ≡ true → (moving ≡ true) × (w ≡ v)
      moves_so true w v e = (refl, eqb-true w v e)
      moves_so false w v e = cc

      trial_apart : AttemptApart H N.places L s.attempt s.attempt.step → TryApart H L t
      trial_apart at = (subst (AttemptApart H N.places L s.attempt) making.tries at).0

      pub stands_so : (h w : ℕ) (sharer : Sharer h w) → H (key_in request) ≡ h → w < request.version.0 → StandsAlready L h w
      stands_so h w sharer here older = by_phase (is_moving_on s.seen.phase && request.version.0 == s.seen.version.0) refl
        where
          by_phase : (b : Bool) → (is_moving_on s.seen.phase && request.version.0 == s.seen.version.0) ≡ b → StandsAlready L h w
          by_phase false e =
              let first = became number s found in
              let low = attempt_settled given.floors given.left life.opening life.start before apart.quiet number first.0 s first.1 making.attempts is_update (moves_not (is_moving_on s.seen.phase) request.version.0 s.seen.version.0 e) in
              let left = sharer.left in
              absurd (omega (arith, low, left, older))
          by_phase true e =
              let so = moves_so (is_moving_on s.seen.phase) request.version.0 s.seen.version.0 e in
              let moves : MovesOn t = (subst (λ (x : Seen). is_moving_on x.phase ≡ true) (sym same_seen) so.0, ap (λ (r : Request). r.version.0) row.its_request ∙ so.1 ∙ sym (ap (λ (x : Seen). x.version.0) same_seen)) in
              let attempted = is_apart.rows.attempted making.attempts in
              let copies : CopiesApart H L t = subst (CopiesRow H L t) making.appends (trial_apart attempted).copies in
              elim (copies moves) [
                | inl alone ↦ absurd (never_alone sharer.op sharer.session sharer.state sharer.got (here ∙ sharer.its_home) alone sharer.held)
                | inr own ↦
                    let version : version_at (L.cells own.at) ≡ request.version.0 = ap version_at own.found.its ∙ own.found.its_version ∙ ap (λ (r : Request). r.version.0) row.its_request in
                    let in_chain : IsIn own.at (L.chains h) = subst (λ (x : ℕ). IsIn own.at (L.chains x)) (ap H own.found.its_key ∙ ap (λ (r : Request). H (key_in r)) row.its_request ∙ here) (chains.its_chain own.at own.found.cell own.found.its) in
                    (own.at, in_chain, omega (arith, version, older))
              ]

      -- the record is of its request's key, and has the mark of its version
      words_so : IsAppendOf request t.append
      words_so =
          let so : TriesAt s.attempt.pending t Tries = subst (TriesAt s.attempt.pending t) making.tries (attempts_so s.attempt s.step making.attempts (life_so life.opening life.start before number s life.begins.store.now found).sits).tries_so in
          subst (KnowsAt request t) making.appends so.of_request.knows

      pub makes_key : (cell_of t.request.version.0 t.append.its_words).key ≡ key_in request
      makes_key = ap (λ (k : Key). k.0) words_so.same.its_key

      pub makes_version : (cell_of t.request.version.0 t.append.its_words).version ≡ request.version.0
      makes_version = ap (λ (r : Request). r.version.0) row.its_request

    -- what it has reserved an address for
    module _ (its : Reservation) (reserved : reserved_by number s ≡ Some its) where
      making : Making s its
      making = making_of number s its reserved

      pub key_so : H its.cell.key ≡ H (key_in s.attempt.pending.request)
      key_so = ap (λ (c : Cell). H c.key) making.its_cell ∙ ap H (makes_key making.makes)

      pub version_so : its.cell.version ≡ s.attempt.pending.request.version.0
      version_so = ap (λ (c : Cell). c.version) making.its_cell

    -- what it publishes is what it has reserved an address for
    cell_so : (its : Reservation) (entry : HistoryEntry) (cell : Cell) → PublishesIt (mover_step N number (Some s)) its → L.cells its.addr ≡ Reserved entry cell → cell ≡ its.cell
    cell_so its entry cell publishes there =
        let reserved = life_reserved life.opening life.start life.ghosts before life.begins.store.now life.begins.unborn life.begins.reserves number its (record { state = s; found = found; reserved = publishes.reserved }) in
        let both : Reserved entry cell ≡ Reserved its.entry its.cell = sym there ∙ reserved in
        cc

    pub publishes_apart : (h w : ℕ) → Sharer h w → PublishesApart H (mover_step N number (Some s)) L h w
    publishes_apart h w sharer its entry cell publishes there here older =
        let same = cell_so its entry cell publishes there in
        let key = ap (λ (c : Cell). H c.key) same ∙ key_so its publishes.reserved in
        let version = ap (λ (c : Cell). c.version) same ∙ version_so its publishes.reserved in
        stands_so (making_of number s its publishes.reserved).makes h w sharer (sym key ∙ here) (omega (arith, older, version))

    -- it comes behind none of its own version
    pub publishes_own : (h : ℕ) → PublishesApart H (mover_step N number (Some s)) L h s.attempt.pending.request.version.0
    publishes_own h its entry cell publishes there here older =
        let is = ap (λ (c : Cell). c.version) (cell_so its entry cell publishes there) ∙ version_so its publishes.reserved in
        absurd (omega (arith, older, is))
