-- So it is at every moment of a life.
use Rattle.std.proofs.Common.{◌≡◌, ℕ, ◌*◌, ◌<◌, ◌≤◌, ◌^◌, ◌∙◌, inl, inr, refl, sym, subst, arith, List, [], ◌∷◌}
use Rattle.std.proofs.lemmas.Bool.{cases_lt}
use Rattle.std.proofs.Math.Nat.{mul-le-mul}
use Rattle.fkv_base.specs.Limits.{max_disk_pages, max_page, min_page}
use Rattle.fkv_base.proofs.Shown.{ring_between}
use Rattle.law_world.specs.Below.fkv_flush.GuardLevels.{levels_of}
use Rattle.law_log.specs.Chains.{Cell, Logged, Unborn, Published, Dropped}
use Rattle.law_log.specs.Ghosts.{Ghosts, ghost_run}
use Rattle.law_world.specs.Below.fkv_world.Runs.{World, run}
use Rattle.law_world.specs.Below.fkv_world.World.{Event}
use Rattle.law_world.specs.Guarded.Shows.{IsOpened}
use Rattle.law_world.proofs.OfGuarded.OfLives.{life_paged}
use Rattle.law_refine.specs.Events.GhostEvents.{ghost_events, mapped, life_ghosts, serials_in}
use Rattle.law_refine.specs.Events.Reserved.{tail_at, IsUnbornFrom, ReservesNothing}
use Rattle.law_refine.specs.Records.Cells.{StandsShowLog}
use Rattle.law_refine.specs.Records.Changes.{AreChangesPublished}
use Rattle.law_refine.specs.Records.Headers.{HeadersShowLog}
use Rattle.law_refine.proofs.OfEvents.Unborn.{ghost_unborn}
use Rattle.law_refine.proofs.OfRecords.Below.{published_permitted}
use Rattle.law_refine.proofs.OfRecords.LogHeaders.{AllFall, HeaderFits, HeadersFit, fall_before, fall_first}
use Rattle.law_refine.proofs.OfRecords.OneEvent.{headers_then, rows_then, shows_then}
use Rattle.law_refine.proofs.OfRecords.SessionRows.{opened_so}
use Rattle.law_refine.proofs.OfRecords.Standing.{life_order, stands_in}
use Rattle.law_refine.proofs.OfRecords.Wrote.{AreSo}

-- each session's record stands as far as it was stored, and what stands shows the log
pub record Holds (opening : World) (start : ℕ) (ghosts : Ghosts) (events : List Event) : Type 0 where
  pub rows : AreSo (stands_in opening start events) (run opening events).now
  pub shows : StandsShowLog start (stands_in opening start events) (life_ghosts opening ghosts events).log

none_published : (logged : Logged) (cell : Cell) → logged ≡ Unborn → logged ≡ Published cell → ⊥
none_published logged cell none e = cc

pub life_holds : (opening : World) (start : ℕ) (ghosts : Ghosts) (events : List Event) → IsOpened opening.now start → IsUnbornFrom (tail_at opening.now) ghosts → ReservesNothing ghosts → AreChangesPublished opening ghosts events
    → Holds opening start ghosts events
unfolding run mapped ghost_run
life_holds opening start ghosts [] opened none free published = record {
  rows = λ number s found. let its = opened.sessions number s found in opened_so (stands_in opening start []) s s.step refl its.none_in_hand its.none_wait;
  shows = opening_shows;
}
  where
    opening_shows : StandsShowLog start (stands_in opening start []) (life_ghosts opening ghosts []).log
    opening_shows a cell above e = let tail = opened.words.tail in absurd (none_published (ghosts.log.cells a) cell (none a (omega (arith, above, tail))) e)
life_holds opening start ghosts (event ∷ before) opened none free published =
    let was = life_holds opening start ghosts before opened none free published.1 in
    let permitted = published_permitted opening start ghosts (event ∷ before) opened none published in
    record {
      rows = rows_then opening start ghosts opened none free before event permitted was.rows published.0;
      shows = shows_then opening start ghosts opened none free before event permitted was.rows published.0 start (omega arith) was.shows;
    }

-- and so it does from below the log's end, if the frames did so as the life began
pub life_shows_from : (opening : World) (start low : ℕ) (ghosts : Ghosts) (events : List Event) → IsOpened opening.now start → IsUnbornFrom (tail_at opening.now) ghosts → ReservesNothing ghosts → AreChangesPublished opening ghosts events
    → low ≤ start → StandsShowLog low (stands_in opening start []) ghosts.log → StandsShowLog low (stands_in opening start events) (life_ghosts opening ghosts events).log
unfolding run mapped ghost_run
life_shows_from opening start low ghosts [] opened none free published small warm = warm
life_shows_from opening start low ghosts (event ∷ before) opened none free published small warm =
    let was = life_holds opening start ghosts before opened none free published.1 in
    let permitted = published_permitted opening start ghosts (event ∷ before) opened none published in
    shows_then opening start ghosts opened none free before event permitted was.rows published.0 low small (life_shows_from opening start low ghosts before opened none free published.1 small warm)

-- ---- and so the headers of what is decided say so
-- where addresses are taken for records that lead below them
pub life_headers : (opening : World) (start : ℕ) (ghosts : Ghosts) (events : List Event) → IsOpened opening.now start → IsUnbornFrom (tail_at opening.now) ghosts → ReservesNothing ghosts → AreChangesPublished opening ghosts events
    → AllFall (mapped opening events) → HeadersFit start (stands_in opening start events) (life_ghosts opening ghosts events).log
unfolding run mapped ghost_run
life_headers opening start ghosts [] opened none free published falls = λ a from low.
    let tail = opened.words.tail in
    subst (HeaderFits (stands_in opening start []) a) (sym (none a (omega (arith, from, tail)))) tt
life_headers opening start ghosts (event ∷ before) opened none free published falls =
    let was = life_holds opening start ghosts before opened none free published.1 in
    let permitted = published_permitted opening start ghosts (event ∷ before) opened none published in
    headers_then opening start ghosts opened none free before event permitted was.rows published.0
    (life_headers opening start ghosts before opened none free published.1 (fall_before (ghost_events (serials_in opening.now) (run opening before) event) (mapped opening before) falls))
    (fall_first (ghost_events (serials_in opening.now) (run opening before) event) (mapped opening before) falls)

-- and each address below the tail is one that an entry can have
small_addr : (a tail limit pages page disk : ℕ) → a < tail → tail ≤ limit → limit ≡ pages * page → pages ≤ disk → page ≤ max_page → disk ≤ max_disk_pages → a < 2 ^ 48
small_addr a tail limit pages page disk low below whole few page_most disk_most =
    let most : pages ≤ max_disk_pages = omega (arith, few, disk_most) in
    let room : pages * page ≤ max_disk_pages * max_page = mul-le-mul most page_most in
    omega (arith, low, below, whole, room)

born_below : (opening : World) (start : ℕ) (ghosts : Ghosts) (events : List Event) (a : ℕ) (logged : Logged) → IsOpened opening.now start → IsUnbornFrom (tail_at opening.now) ghosts
    → (life_ghosts opening ghosts events).log.cells a ≡ logged → (logged ≡ Unborn → ⊥) → a < 2 ^ 48
born_below opening start ghosts events a logged opened none e born = elim (cases_lt a (tail_at (run opening events).now)) [
  | inl low ↦
      let paged = life_paged opening start events opened in
      let order = life_order opening start events opened in
      let limits = opening.now.shape.limits in
      small_addr a (tail_at (run opening events).now) (levels_of (run opening events).now.words).limit paged.pages opening.now.shape.page opening.now.shape.disk_pages low order.tail paged.whole paged.on_device
      (ring_between opening.now.shape.page min_page max_page limits.page_size).1 limits.few_disk
  | inr high ↦ absurd (born (sym e ∙ ghost_unborn opening start ghosts events opened none a high))
]

pub headers_show : (opening : World) (start : ℕ) (ghosts : Ghosts) (events : List Event) → IsOpened opening.now start → IsUnbornFrom (tail_at opening.now) ghosts → ReservesNothing ghosts → AreChangesPublished opening ghosts events
    → AllFall (mapped opening events) → HeadersShowLog start (stands_in opening start events) (life_ghosts opening ghosts events).log
headers_show opening start ghosts events opened none free published falls =
    let log = (life_ghosts opening ghosts events).log in
    let fit = life_headers opening start ghosts events opened none free published falls in
    record {
      published = λ a cell from e. subst (HeaderFits (stands_in opening start events) a) e (fit a from (born_below opening start ghosts events a (Published cell) opened none e (λ is. is_born_published cell is)));
      dropped = λ a cell from e. subst (HeaderFits (stands_in opening start events) a) e (fit a from (born_below opening start ghosts events a (Dropped cell) opened none e (λ is. is_born_dropped cell is)));
    }
  where
    is_born_published : (cell : Cell) → Published cell ≡ Unborn → ⊥
    is_born_published cell e = cc

    is_born_dropped : (cell : Cell) → Dropped cell ≡ Unborn → ⊥
    is_born_dropped cell e = cc
