-- By the commit that the image holds, and what its points keep.
use Rattle.std.proofs.Common.{◌≡◌, ℕ, ◌∙◌, ◌≤◌, ◌&&◌, ap, arith, sym, subst, cond, List}
use Rattle.std.specs.Prelude.{nat_le, nat_lt}
use Rattle.std.specs.List.{count_by}
use Rattle.fkv_base.specs.declared.numbers.Serial.{Serial}
use Rattle.fkv_map.specs.History.{AreAtMost, IsWhole, is_update, point_of}
use Rattle.fkv_map.specs.declared.history.HistoryEntry.{HistoryEntry}
use Rattle.fkv_map.proofs.Shown.{kept_by_same_points}
use Rattle.law_opening.specs.Below.fkv_opening.TheOpened.{Opened}
use Rattle.law_commit.specs.Below.fkv_world.World.{Event, Now}
use Rattle.law_commit.specs.BegunCommits.{BegunCommit}
use Rattle.law_commit.proofs.OfVersions.Requests.{same_version}
use Rattle.law_log.specs.Trace.{Effect, IsIn}
use Rattle.law_order.specs.Prefix.Law.{HoldsPrefix, history_so_far}
use Rattle.law_order.specs.Prefix.Stores.{IsOfCommitBeside}
use Rattle.law_commit.specs.Below.law_paper.Kept.{PointsSplit}
use Rattle.law_order.specs.Recovered.Holds.{HoldsBegun}
use Rattle.law_order.specs.Recovered.Leaves.{Leaves}
use Rattle.law_order.proofs.recovered.prefix.law_images_recovered.Goals as goal

-- ---- points that agree
splits_same : (points others : List Serial) (number version : ℕ) (effects these : List Effect) → ((session : ℕ) → point_of points session ≡ point_of others session) → version ≡ number → effects ≡ these → PointsSplit others number these → PointsSplit points version effects
splits_same points others number version effects these same is all split = λ effect there.
    ap (λ (n : ℕ). nat_le effect.entry.serial.0 n) (same effect.entry.session)
    ∙ (split effect (subst (λ (x : List Effect). IsIn effect x) all there) ∙ ap (λ (n : ℕ). nat_le effect.version n) (sym is))

whole_same : (history : List HistoryEntry) (opening points others : List Serial) → ((session : ℕ) → point_of points session ≡ point_of others session) → IsWhole history opening others → IsWhole history opening points
whole_same history opening points others same whole session serial =
    ap (λ (x : List HistoryEntry). count_by (is_update session serial) x) (kept_by_same_points history points others same)
    ∙ (whole session serial ∙ ap (λ (n : ℕ). cond (nat_lt (point_of opening session) serial && nat_le serial n) 1 0) (sym (same session)))

risen_same : (opening points others : List Serial) → ((session : ℕ) → point_of points session ≡ point_of others session) → AreAtMost opening others → AreAtMost opening points
risen_same opening points others same risen session = subst (λ (n : ℕ). point_of opening session ≤ n) (sym (same session)) (risen session)

pub returns : goal.returns
returns c = λ its is reaches other found.
    let o : Opened = its.opened in
    let n : Now = its.world in
    let bytes : List ℕ = its.bytes in
    let events : List Event = its.events in
    let image : List ℕ = found.image in
    let leaves : Leaves o n bytes events image = record {
      store = is.store;
      begins = is.begins;
      fits = is.fits;
      few = is.few;
      far = reaches;
      left = found.left;
    } in
    let held : HoldsBegun o n bytes events image = c.law_images_hold.ensures o n bytes events image leaves in
    let named = held.named in
    let it : BegunCommit = named.commit in
    let points = c.law_points_keep.ensures.kept its it is named.begun in
    let own : HoldsPrefix o n bytes events image = record {
      commit = it;
      current = record {
        begun = named.begun;
        newest = named.current;
        durable = λ session told there.
            let sealed = c.law_durable_is_sealed.ensures its is session told there in
            let point = sealed.point in
            let up = c.law_points_keep.ensures.rise its is sealed.commit it sealed.begun named.begun (named.sealed sealed.commit sealed.begun sealed.is_sealed) session in
            omega (arith, point, up);
      };
      named = record { newest = held.newest; its = held.its; number = held.number; points = held.points };
      faultless = held.holds.faultless;
      store = held.holds.store;
      each = λ r store.
          let of = held.holds.each r store in
          let same : (session : ℕ) → point_of r.points.items session ≡ point_of it.points session = λ session. ap (λ (items : List Serial). point_of items session) of.points ∙ held.points session in
          let beside : IsOfCommitBeside o n bytes events image r store = record {
            newest = held.newest;
            values = of;
            since = held.since;
            split = splits_same r.points.items it.points it.number.0 _ _ _ same held.number (c.law_history_beside.ensures its is) points.split;
          } in
          let rules = c.law_lives_keep_rules.ensures its is in
          let published = c.law_lives_change_published.ensures.published o n bytes events is.store is.begins in
          record {
            shape = of.shape ∙ (held.shape ∙ is.begins.its_shape);
            number = same_version r.number it.number (of.number ∙ held.number);
            points = same;
            pairs = c.law_replays_kept.ensures.pairs bytes o n events image r store is.store is.begins rules published beside;
            legal = c.law_replays_kept.ensures.legal bytes o n events image r store is.store is.begins rules published beside;
            whole = whole_same (history_so_far n bytes events) o.points.items r.points.items it.points same points.whole;
            risen = risen_same o.points.items r.points.items it.points same points.risen;
          };
      reaches = held.far;
    } in
    c.law_forgotten.ensures o n bytes events image other own found.agrees
