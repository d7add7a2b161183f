-- A read that nothing comes between has its value after all effects: each has its result before the read's call, so none of them is newer than what it reads.
use Rattle.std.proofs.Common.{◌≡◌, ◌∙◌, ℕ, List, [], ◌∷◌, ◌++◌, ap, inl, inr, refl, sym, subst}
use Rattle.fkv_map.specs.Map.{Map, reply_to_read}
use Rattle.fkv_map.specs.declared.operations.Reply.{Reply}
use Rattle.law_log.specs.Trace.{AnswersRead, CallsRead, Effect, GivesResult, HasUpdate, IsFresh, IsIn, OrdersCalls, ReadsAreFresh, TraceLine, value_in}
use Rattle.law_program.specs.WholeCalls.WholeCalls.{AreAllGiven}

is_behind : (effect : Effect) (newer older : List Effect) → IsIn effect older → IsIn effect (newer ++ older)
is_behind effect [] older is_in = is_in
is_behind effect (it ∷ newer) older is_in = inr (is_behind effect newer older is_in)

update_behind : (newer older : List Effect) (session serial : ℕ) → HasUpdate older session serial → HasUpdate (newer ++ older) session serial
update_behind newer older session serial has = record { effect = has.effect; is_in = is_behind has.effect newer older has.is_in; its_session = has.its_session; its_serial = has.its_serial }

-- ---- nothing is newer
by_newer : (m : Map) (effects newer older : List Effect) (key : ℕ) (reply : Reply) (before since : List TraceLine) → OrdersCalls effects since → AreAllGiven effects before
    → effects ≡ newer ++ older → reply ≡ reply_to_read (value_in m older key) → ((session serial : ℕ) (its : Reply) → IsIn (GivesResult session serial its) before → HasUpdate older session serial)
    → reply ≡ reply_to_read (value_in m effects key)
by_newer m effects [] older key reply before since ordered given all value earlier = value ∙ ap (λ (x : List Effect). reply_to_read (value_in m x key)) (sym all)
by_newer m effects (effect ∷ newer) older key reply before since ordered given all value earlier =
    absurd (ordered.once [] (newer ++ older) effect all
    (update_behind newer older _ _ (earlier _ _ _ (given effect (subst (IsIn effect) (sym all) (inl refl))))))

pub fresh_alone : (m : Map) (effects : List Effect) (reader key : ℕ) (reply : Reply) (before since : List TraceLine) → OrdersCalls effects since → ReadsAreFresh m effects since → AreAllGiven effects before
    → since ≡ AnswersRead reader reply ∷ CallsRead reader key ∷ before → reply ≡ reply_to_read (value_in m effects key)
fresh_alone m effects reader key reply before since ordered reads given told =
    let its : IsFresh m effects key reply before [] = reads.fresh [] [] before reader key reply told in
    by_newer m effects its.newer its.older key reply before since ordered given its.all its.value its.given_before
