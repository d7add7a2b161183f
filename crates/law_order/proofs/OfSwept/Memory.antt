-- What memory has of a record from the closed offset up: its words show the log beside the life. So a sweep that loads them meets its key, and goes on in its chain.
use Rattle.std.proofs.Common.{◌≡◌, ℕ, ◌<◌, ◌≤◌, ◌∙◌, inl, inr, sym, ap, subst, arith, Bool, true, false, List, []}
use Rattle.std.specs.Prelude.{if◌then◌else◌, Some}
use Rattle.fkv_base.specs.declared.numbers.Addr.{Addr}
use Rattle.fkv_base.specs.declared.numbers.Key.{Key}
use Rattle.fkv_base.specs.declared.numbers.Version.{Version}
use Rattle.fkv_plane.specs.declared.places.Places.{Places}
use Rattle.fkv_plane.specs.declared.places.RecordWord.TheVariants as rec
use Rattle.fkv_sweep.specs.SweptLogs.{HasKeyAt, IsInChain}
use Rattle.fkv_sweep.specs.Sweeping.{previous_in}
use Rattle.law_commit.specs.Below.fkv_flush.GuardLevels.{levels_of}
use Rattle.law_commit.specs.Below.fkv_ops.HeaderSaid.TheVariants.{Says, Spoiled}
use Rattle.law_commit.specs.Below.fkv_ops.HeaderWords as header
use Rattle.law_commit.specs.Below.fkv_ops.HeaderWords.{header_said, is_header, version_in}
use Rattle.law_commit.specs.Below.fkv_world.Runs.{World, run}
use Rattle.law_commit.specs.Below.fkv_world.World.{Event, Now}
use Rattle.law_commit.specs.Below.law_refine.Events.GhostEvents.{life_ghosts, mapped}
use Rattle.law_commit.specs.Below.law_refine.Records.Cells.{ShowsCell}
use Rattle.law_commit.specs.Below.law_refine.Records.Changes.{AreChangesPublished}
use Rattle.law_commit.specs.Below.law_refine.Records.Frames.{IsFramed, words_framed}
use Rattle.law_commit.specs.Below.law_world.Guarded.Shows.{IsOpened}
use Rattle.law_commit.proofs.Below.fkv_world.Shown.{places_stay}
use Rattle.law_commit.proofs.Below.law_refine.OfEvents.Fixed.{life_rises}
use Rattle.law_commit.proofs.Below.law_refine.OfRecords.Frames.{frames_show_log}
use Rattle.law_commit.proofs.Below.law_refine.OfRecords.Standing.{limit_near}
use Rattle.law_commit.proofs.Below.law_world.OfGuarded.Worlds as guarded
use Rattle.law_log.specs.Chains.{Cell, Published, head_of, IsWithin}
use Rattle.law_log.specs.Enabled.{AreChains, AreEnabled, IsOfHome, previous_of}
use Rattle.law_log.specs.Ghosts.{Log}
use Rattle.law_log.specs.Trace.{IsIn}
use Rattle.law_log.proofs.Shown.{begins_at, run_held}
use Rattle.law_order.specs.Known.Begins.{BegunLife, home_of_world}
use Rattle.law_order.specs.Swept.Logs.{swept_log}
use Rattle.law_order.proofs.OfSwept.Logs.{has_key_at, in_swept, in_trace}
use Rattle.law_order.proofs.OfTruth.Frames.{published_below}

-- ---- the head lies at or above the closed offset
pub closed_below_head : (opening : World) (start : ℕ) (events : List Event) → IsOpened opening.now start → (levels_of (run opening events).now.words).closed ≤ (levels_of (run opening events).now.words).head
closed_below_head opening start events opened =
    let shows = guarded.life_shows opening start events opened in
    subst (λ (words : List ℕ). (levels_of words).closed ≤ (levels_of words).head) shows.words shows.sound.guard.in_order.closed_below

-- ---- where a header leads
said_previous : (word : ℕ) (previous : Addr) (version : Version) → header_said word ≡ Says previous version → previous_in word ≡ previous.0
unfolding header_said
said_previous word previous version said = by_test (is_header word) said
  where
    by_test : (c : Bool) → (if c then Says (record { 0 = header.previous_in word }) (record { 0 = version_in word }) else Spoiled) ≡ Says previous version → previous_in word ≡ previous.0
    by_test true is = let same : record { 0 = header.previous_in word } ≡ previous = cc in ap (λ (a : Addr). a.0) same
    by_test false is = cc

the_next : (x y : ℕ) → Some x ≡ Some y → x ≡ y
the_next x y same = cc

some_in : (a : ℕ) (chain : List ℕ) → 0 < a → IsWithin a chain → IsIn a chain
some_in a chain some (inl none) = absurd (omega (arith, some, none))
some_in a chain some (inr is_in) = is_in

-- behind these events of a life
module _ (life : BegunLife) (events : List Event) (enabled : AreEnabled (home_of_world life.opening) life.ghosts (mapped life.opening events)) (published : AreChangesPublished life.opening life.ghosts events) where
  abbrev n : Now
  n = (run life.opening events).now

  abbrev log : Log
  log = (life_ghosts life.opening life.ghosts events).log

  abbrev home : ℕ → ℕ
  home = home_of_world life.opening

  abbrev bits : ℕ
  bits = life.opening.now.shape.bucket_bits

  chains : AreChains home log
  chains = (run_held home life.map life.number life.ghosts (mapped life.opening events) life.begins.log enabled).chains

  framed : (a : ℕ) (cell : Cell) → (levels_of n.words).closed ≤ a → log.cells a ≡ Published cell → IsFramed n a
  framed a cell above is =
      let ring : n.places.ring ≡ life.opening.now.places.ring = ap (λ (p : Places). p.ring) (places_stay life.opening events) in
      let near = limit_near life.opening life.start events a life.begins.store.now above in
      record { below = published_below life.opening life.start life.ghosts events a cell life.begins.store.now life.begins.unborn is; near = omega (arith, near, ring) }

  closed_rises : (levels_of life.opening.now.words).closed ≤ (levels_of n.words).closed
  unfolding run
  closed_rises = (life_rises life.opening life.start [] events life.begins.store.now).closed

  -- a record whose frame isn't used again shows in it
  pub shows_closed : (a : ℕ) (cell : Cell) → (levels_of n.words).closed ≤ a → log.cells a ≡ Published cell → ShowsCell (words_framed n a) cell
  shows_closed a cell above is =
      frames_show_log life.opening life.start (levels_of life.opening.now.words).closed life.ghosts events life.begins.store.now life.begins.unborn life.begins.reserves published life.begins.store.now.words.closed life.begins.warm
      a cell (omega (arith, closed_rises, above)) (framed a cell above is) is

  in_log : (key : Key) (a : ℕ) → IsInChain bits (swept_log log) key a → IsIn a (log.chains (home key.0))
  in_log key a is_in = in_trace a (log.chains (home key.0)) is_in

  its_record : (key : Key) (a : ℕ) → IsInChain bits (swept_log log) key a → IsOfHome home (home key.0) (log.cells a)
  its_record key a is_in = chains.in_chain (home key.0) a (in_log key a is_in)

  -- so its key is there
  pub key_shown : (key : Key) (a : ℕ) → (levels_of n.words).closed ≤ a → IsInChain bits (swept_log log) key a → words_framed n a rec.Key ≡ key.0 → HasKeyAt (swept_log log) key a
  key_shown key a above is_in same =
      let its = its_record key a is_in in
      has_key_at log key a its.cell its.its (sym (shows_closed a its.cell above its.its).key ∙ same)

  -- and where its header leads, one may go on in its chain
  leads_within : (key : Key) (a : ℕ) → (levels_of n.words).closed ≤ a → IsInChain bits (swept_log log) key a → IsWithin (previous_in (words_framed n a rec.Header)) (log.chains (home key.0))
  leads_within key a above is_in =
      let its = its_record key a is_in in
      let said : previous_in (words_framed n a rec.Header) ≡ its.cell.previous = said_previous (words_framed n a rec.Header) _ _ (shows_closed a its.cell above its.its).header in
      let from = begins_at log.cells (log.chains (home key.0)) (chains.linked (home key.0)) a (in_log key a is_in) in
      let next : head_of from.older ≡ its.cell.previous = the_next (head_of from.older) its.cell.previous (sym from.leads ∙ ap previous_of its.its) in
      subst (λ (b : ℕ). IsWithin b (log.chains (home key.0))) (next ∙ sym said) from.within

  pub header_shown : (key : Key) (a : ℕ) → (levels_of n.words).closed ≤ a → IsInChain bits (swept_log log) key a → 0 < previous_in (words_framed n a rec.Header) → IsInChain bits (swept_log log) key (previous_in (words_framed n a rec.Header))
  header_shown key a above is_in some =
      in_swept (previous_in (words_framed n a rec.Header)) (log.chains (home key.0)) (some_in (previous_in (words_framed n a rec.Header)) (log.chains (home key.0)) some (leads_within key a above is_in))
