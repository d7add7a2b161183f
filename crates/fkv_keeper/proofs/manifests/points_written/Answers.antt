-- Each point is within the limit of serials.
use Rattle.std.proofs.Common.{◌≡◌, ◌≤◌, ◌∙◌, ap, arith, length, slice_index_or, subst, sym}
use Rattle.std.proofs.lemmas.List.FromFn.{get_or-map-range_with_len}
use Rattle.fkv_base.specs.Limits.{last_serial}
use Rattle.fkv_base.specs.declared.numbers.Serial.{Serial}
use Rattle.fkv_keeper.specs.LastCommits.{point_written}
use Rattle.fkv_keeper.proofs.manifests.points_written.Goals as goal

pub invariant_of-result : goal.invariant_of-result
invariant_of-result c = record {
  some_session = omega (arith, many, c.loop-session-test.false, c.requires.some_session);
  few_sessions = omega (arith, many, within, c.requires.few_sessions);
  serials_fit = λ k d low.
      let at = ap (λ l. slice_index_or l k d) c.loop-session.invariant.so_far ∙ get_or-map-range_with_len (λ session. point_written c.args.points.now session) 0 c.loop-session.session k k d (omega (arith, many, low)) (omega arith) in
      subst (λ (x : Serial). x.0 ≤ last_serial) (sym at) (omega arith);
}
  where
    many : length c.loop-session.serials.items ≡ c.loop-session.session
    many = c.loop-session.invariant.count

    within : c.loop-session.session ≤ c.args.sessions
    within = c.loop-session.invariant.within
