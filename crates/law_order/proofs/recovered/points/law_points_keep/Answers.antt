-- By what an opened store's life begins with.
use Rattle.std.proofs.Common.{◌≡◌, ℕ, ◌≤◌, ◌∙◌, ap, sym, subst, cond}
use Rattle.std.specs.Prelude.{nat_lt}
use Rattle.fkv_base.specs.declared.shapes.Shape.{Shape}
use Rattle.law_opening.specs.Below.fkv_core.Openings.{beginning}
use Rattle.law_commit.specs.Below.fkv_keeper.Keeping.{Finality}
use Rattle.fkv_map.specs.History.{point_of}
use Rattle.fkv_map.proofs.Shown.{whole_by_count}
use Rattle.law_commit.specs.Below.fkv_world.Runs.{World}
use Rattle.law_commit.specs.LastSerials.{serial_at}
use Rattle.law_commit.specs.Points.{OpensPointed}
use Rattle.law_order.specs.Prefix.Law.{history_so_far}
use Rattle.law_order.proofs.OfRecovered.OfPoints.Lives.{Given, count_so, fits_so, no_lower, rises_so, splits_so}
use Rattle.law_order.proofs.recovered.points.law_points_keep.Goals as goal

-- what the laws below give
given_of : goal.After-law_of_the_past → Given
given_of c = record {
  begun = c.law_points_taken.ensures.begun;
  given = c.law_points_between.ensures.given;
  rises = c.law_points_between.ensures.rises;
  effects = c.law_points_split.ensures.effects;
  left = c.law_versions_end.ensures.left;
  splits = c.law_versions_end.ensures.splits;
  flushed = c.law_versions_end.ensures.begun;
  once = c.law_world_sessions.ensures.once;
  replies = c.law_world_replies.ensures.replies;
  taken = c.law_world_requests.ensures.versions;
  tells = c.law_world_effects.ensures;
  added = c.law_of_the_past.ensures.history;
}

pub returns-clause-kept : goal.returns-clause-kept
returns-clause-kept c = λ its d is there.
    let opening : World = beginning its.world its.bytes in
    let opens : OpensPointed opening its.opened.tail.0 = c.law_points_open.ensures its.bytes its.opened its.world is.store is.begins in
    let given : Given = given_of c in
    let begins = is.begins in
    let first : (session : ℕ) → serial_at its.world session ≡ point_of its.opened.points.items session = λ session. sym (opens.points session) ∙ ap (λ (last : Finality). point_of last.points session) begins.its_keeper.newest in
    record {
      split = splits_so given opening its.opened.tail.0 its.events opens d there;
      whole = whole_by_count (history_so_far its.world its.bytes its.events) its.opened.points.items d.points
          (λ session serial low.
          count_so given opening its.opened.tail.0 its.events opens d there (c.law_order.ensures.ordered its is).once session serial low
          ∙ ap (λ (n : ℕ). cond (nat_lt n serial) 1 0) (first session));
      risen = λ session. subst (λ (n : ℕ). n ≤ point_of d.points session) (first session) (no_lower given opening its.opened.tail.0 its.events opens d there session);
      fits = fits_so given opening its.opened.tail.0 its.events opens d there its.world.shape.sessions (begins.seats ∙ ap (λ (s : Shape). s.sessions) (sym begins.its_shape));
    }

pub returns-clause-rise : goal.returns-clause-rise
returns-clause-rise c = λ its is older newer one other up session.
    let opening : World = beginning its.world its.bytes in
    let opens : OpensPointed opening its.opened.tail.0 = c.law_points_open.ensures its.bytes its.opened its.world is.store is.begins in
    let given : Given = given_of c in
    rises_so given opening its.opened.tail.0 its.events opens older newer one other up session
