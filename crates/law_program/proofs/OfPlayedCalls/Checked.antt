-- Where the updates that are kept are those of all lives, a check finds that the recovered pairs are their replay.
use Rattle.std.proofs.Common.{◌≡◌, ◌∙◌, ℕ, Bool, true, false, List, [], ◌∷◌, ◌++◌, ap, append-nil, map, refl, sym}
use Rattle.std.specs.Prelude.{◌&&◌}
use Rattle.std.specs.FinMap.{empty, entries}
use Rattle.std.specs.List.Sorted.{IsStrictlySortedBy}
use Rattle.std.specs.List.{AllByRecursion}
use Rattle.std.specs.Map.{keys_of}
use Rattle.std.specs.Ordering.{nat_cmp}
use Rattle.std.specs.declared.cmp.Ordering.TheVariants.{Less}
use Rattle.std.proofs.lemmas.Map.Keys.{sorted_from_strictly_increasing}
use Rattle.fkv_base.specs.declared.numbers.Key.{Key}
use Rattle.fkv_base.specs.declared.numbers.Value.{Value}
use Rattle.fkv_disk.specs.declared.fuses.Fuse.{Fuse}
use Rattle.fkv_map.specs.History.{content, kept}
use Rattle.fkv_map.specs.Map.{Map, as_numbers}
use Rattle.fkv_map.specs.declared.history.HistoryEntry.{HistoryEntry}
use Rattle.fkv_map.proofs.Shown.{entries-map_of, key_cmp}
use Rattle.law_order.specs.Below.fkv_opening.TheOpened.{Opened}
use Rattle.law_order.specs.Below.fkv_pairs.Pairs.{ArePairs}
use Rattle.fkv_runs.specs.Below.fkv_playing.Players.{IsArmed, PlayerState}
use Rattle.fkv_runs.specs.Crashes.{Agrees, kept_behind}
use Rattle.fkv_runs.specs.Openings.{Begins}
use Rattle.law_order.specs.Below.fkv_scan.Log.{Log}
use Rattle.law_order.specs.Below.fkv_world.World.{Event, Now}
use Rattle.law_order.specs.Below.law_opening.Log.Records as records
use Rattle.law_order.specs.OneHistory.EachLife.{Life}
use Rattle.law_order.specs.Prefix.Law.{first_of, history_so_far, kept_of_all, map_of, points_of}
use Rattle.law_program.specs.PlayedCalls.AllLives.{first_life, with_events}
use Rattle.law_program.specs.PlayedCalls.Noted.{AreNoted, ArmsKeepNotes, IsNoted, KeepsNotes}
use Rattle.law_program.proofs.OfPlayedCalls.NotedBeats.{none_yet}

-- ---- pairs by ascending keys
after_key : (key : ℕ) (pairs : List (Key × Value)) → AllByRecursion (λ y. nat_cmp key y ≡ Less) (map (λ (pair : Key × Value). pair.0.0) pairs) → AllByRecursion (λ (y : Key). nat_cmp key y.0 ≡ Less) (keys_of pairs)
after_key key [] all = tt
after_key key (pair ∷ later) all = (all.0, after_key key later all.1)

keys_sorted : (pairs : List (Key × Value)) → IsStrictlySortedBy nat_cmp (map (λ (pair : Key × Value). pair.0.0) pairs) → IsStrictlySortedBy key_cmp (keys_of pairs)
unfolding IsStrictlySortedBy
keys_sorted [] sorted = tt
keys_sorted (pair ∷ later) sorted = (after_key pair.0.0 later sorted.0, keys_sorted later sorted.1)

-- they are the entries of their map
pairs_entries : (log : Log) (pairs : List (Key × Value)) → ArePairs log pairs → entries (records.map_of pairs) ≡ as_numbers pairs
pairs_entries log pairs are = entries-map_of pairs (keys_sorted pairs (sorted_from_strictly_increasing (map (λ (pair : Key × Value). pair.0.0) pairs) are.ascending))

-- ---- a check
pub agrees : (log : Log) (pairs : List (Key × Value)) (checks said : Bool) (history : List HistoryEntry) (opening : Map) → ArePairs log pairs → Agrees checks history pairs said → opening ≡ empty
    → (checks ≡ true → records.map_of pairs ≡ content opening history) → said ≡ true
agrees log pairs true said history opening are replay nothing shows =
    replay.1 (sym (pairs_entries log pairs are) ∙ (ap entries (shows refl) ∙ ap (λ (x : Map). entries (content x history)) nothing))
agrees log pairs false said history opening are says nothing shows = says

pub still_agrees : (before said after : Bool) → after ≡ (before && said) → said ≡ true → after ≡ before
still_agrees true said after counted agrees = counted ∙ agrees
still_agrees false said after counted agrees = counted

-- ---- what is noted of lives
-- a life that goes on began as it did
from_nothing_still : (its : Life) (events : List Event) (before : List Life) → map_of (first_of its before) ≡ empty → map_of (first_of (with_events its events) before) ≡ empty
from_nothing_still its events [] nothing = nothing
from_nothing_still its events (last ∷ before) nothing = nothing

pub noted_on : {D : Type 0} (checks : Bool) (its : Life) (events : List Event) (before : List Life) (was is_now : PlayerState D) → AreNoted checks its before was → is_now.keeps_history ≡ was.keeps_history
    → IsNoted (kept_of_all (points_of its) before) its.bytes its.world events is_now → AreNoted checks (with_events its events) before is_now
noted_on checks its events before was is_now were keeps noted = record { keeps = keeps ∙ were.keeps; life = noted; from_nothing = from_nothing_still its events before were.from_nothing }

-- a line that fails a device, or crashes it, leaves it
pub noted_armed : {D : Type 0} (checks : Bool) (its : Life) (before : List Life) (was is_now : PlayerState D) → AreNoted checks its before was → KeepsNotes was is_now → AreNoted checks its before is_now
noted_armed checks its before was is_now were same =
    let life = were.life in
    record {
      keeps = same.keeps ∙ were.keeps;
      life = record { goes_on = ap (λ (x : Now). x.crashed) same.now ∙ life.goes_on; noted = λ keeps. same.history ∙ life.noted (sym same.keeps ∙ keeps) };
      from_nothing = were.from_nothing;
    }

pub armed_notes : {D : Type 0} → ArmsKeepNotes (IsArmed {D = D})
armed_notes {D} count waits before after armed = record {
  now = armed.now;
  history = ap (λ (x : PlayerState (Fuse D)). x.history) armed.same;
  keeps = ap (λ (x : PlayerState (Fuse D)). x.keeps_history) armed.same;
  sweeps = ap (λ (x : PlayerState (Fuse D)). x.sweeps) armed.same;
}

-- ---- lives that begin
module _ {D : Type 0} (checks : Bool) (image : List ℕ) (opened : Opened) (device : D) where
  -- the first one
  pub noted_first : (player : PlayerState D) → Begins opened device [] checks player → map_of (first_life image opened player.world.now) ≡ empty → AreNoted checks (first_life image opened player.world.now) [] player
  noted_first player begins nothing = record {
    keeps = ap (λ (x : PlayerState D). x.keeps_history) begins.same;
    life = record { goes_on = (let world = begins.world in world.goes_on); noted = λ keeps. ap (λ (x : PlayerState D). x.history) begins.same ∙ sym (none_yet player.world.now image) };
    from_nothing = nothing;
  }

  -- the one behind a crash, with what its points keep
  all_noted : (last : Life) (before : List Life) (struck : PlayerState D) → AreNoted checks last before struck → checks ≡ true → struck.history ≡ kept_of_all (points_of last) before ++ history_so_far last.world last.bytes last.events
  all_noted last before struck were on = let life = were.life in life.noted (were.keeps ∙ on)

  pub kept_so : (last : Life) (before : List Life) (struck : PlayerState D) → AreNoted checks last before struck → checks ≡ true → kept struck.history opened.points.items ≡ kept_of_all opened.points.items (last ∷ before)
  kept_so last before struck were on = ap (λ (x : List HistoryEntry). kept x opened.points.items) (all_noted last before struck were on)

  kept_behind_so : (history : List HistoryEntry) → checks ≡ true → kept_behind checks history opened ≡ kept history opened.points.items
  kept_behind_so history on = ap (λ (x : Bool). kept_behind x history opened) on

  pub noted_next : (last : Life) (before : List Life) (struck behind : PlayerState D) → AreNoted checks last before struck → Begins opened device (kept_behind checks struck.history opened) checks behind
      → AreNoted checks (first_life image opened behind.world.now) (last ∷ before) behind
  noted_next last before struck behind were begins =
      let keeps : behind.keeps_history ≡ checks = ap (λ (x : PlayerState D). x.keeps_history) begins.same in
      let none = none_yet behind.world.now image in
      record {
        keeps = keeps;
        life = record {
          goes_on = (let world = begins.world in world.goes_on);
          noted = λ kept_too.
              let on : checks ≡ true = sym keeps ∙ kept_too in
              ap (λ (x : PlayerState D). x.history) begins.same
              ∙ (kept_behind_so struck.history on
              ∙ (kept_so last before struck were on
              ∙ (sym (append-nil (kept_of_all opened.points.items (last ∷ before)))
              ∙ ap (λ (x : List HistoryEntry). kept_of_all opened.points.items (last ∷ before) ++ x) (sym none))));
        };
        from_nothing = were.from_nothing;
      }
