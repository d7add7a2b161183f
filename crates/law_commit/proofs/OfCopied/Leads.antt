-- Where the entries of the index lead at each moment of a life.
use Rattle.std.proofs.Common.{◌≡◌, ℕ, ◌∙◌, List, sym, ap, subst}
use Rattle.fkv_plane.specs.declared.places.Places.{Places}
use Rattle.fkv_index.specs.declared.homes.Home.{Home}
use Rattle.fkv_index.specs.Entries.{entry_of}
use Rattle.fkv_index.specs.IndexWorld.{IndexWorld}
use Rattle.fkv_index.specs.OneEntry.{IsHome}
use Rattle.fkv_index.specs.Slots.{entry_addr}
use Rattle.law_refine.specs.Below.fkv_world.Runs.{World, run}
use Rattle.law_refine.specs.Below.fkv_world.World.{Event, Now}
use Rattle.law_refine.specs.Below.law_world.Guarded.Shows as guard
use Rattle.law_log.specs.Ghosts.{Ghosts, Log}
use Rattle.law_refine.specs.Index.LifeEntries.{lists_seen}
use Rattle.law_refine.specs.Index.Shows as index
use Rattle.law_refine.specs.Index.Shows.{Shows, seen_by_index}
use Rattle.law_refine.proofs.OfIndex.Permitted.{are_permitted}
use Rattle.law_refine.proofs.OfIndex.Worlds.{life_shows}
use Rattle.law_refine.specs.Events.GhostEvents.{life_ghosts}
use Rattle.law_refine.specs.Events.Reserved.{IsUnbornFrom, ReservesNothing, tail_at}
use Rattle.law_refine.specs.Heads.Heads.{LeadToHeads, head_at}
use Rattle.law_refine.proofs.OfHeads.Entries.{entry_none, head_addr}
use Rattle.law_refine.proofs.OfHeads.LifeHeads.{life_leads}

-- ---- the entry of a home leads to where its chain begins
pub entry_led : (n : Now) (lists : ℕ → List ℕ) (log : Log) (w : IndexWorld) (home : Home) → Shows n w → w.lists ≡ lists → LeadToHeads n lists log → IsHome w.now.places home → entry_addr (entry_of w home) ≡ head_at log home
entry_led n lists log w home shows same leads there =
    rw (shows.places, shows.words, same) (head_addr n lists log home leads (subst (λ (p : Places). IsHome p home) shows.places there))

pub none_led : (word head : ℕ) → entry_addr word ≡ head → (head ≡ 0 → ⊥) → word ≡ 0 → ⊥
none_led word head leads some none = some (sym leads ∙ ap entry_addr none)

-- an entry that isn't none leads to a record
pub some_led : (n : Now) (lists : ℕ → List ℕ) (log : Log) (w : IndexWorld) (home : Home) → Shows n w → w.lists ≡ lists → LeadToHeads n lists log → IsHome w.now.places home → (entry_of w home ≡ 0 → ⊥) → head_at log home ≡ 0 → ⊥
some_led n lists log w home shows same leads there some none =
    some (rw (shows.places, shows.words, same) (leads home (subst (λ (p : Places). IsHome p home) shows.places there) ∙ entry_none (head_at log home) home.tag none))

-- ---- a life
-- What the law of heads supposes of a life.
pub record HasHeads (opening : World) (start : ℕ) (lists : ℕ → List ℕ) (ghosts : Ghosts) : Type 0 where
  pub opened : guard.IsOpened opening.now start
  pub in_order : index.IsOpened opening lists
  pub none : IsUnbornFrom (tail_at opening.now) ghosts
  pub free : ReservesNothing ghosts
  pub leads : LeadToHeads opening.now lists ghosts.log

pub leads_then : (opening : World) (start : ℕ) (lists : ℕ → List ℕ) (ghosts : Ghosts) (events : List Event) → HasHeads opening start lists ghosts → LeadToHeads (run opening events).now (lists_seen opening lists events) (life_ghosts opening ghosts events).log
leads_then opening start lists ghosts events has = life_leads opening start lists ghosts events has.opened has.in_order has.none has.free has.leads

pub shows_then : (opening : World) (start : ℕ) (lists : ℕ → List ℕ) (ghosts : Ghosts) (events : List Event) → HasHeads opening start lists ghosts → Shows (run opening events).now (seen_by_index opening lists events)
shows_then opening start lists ghosts events has = life_shows opening lists events has.in_order (are_permitted opening lists events has.in_order)
