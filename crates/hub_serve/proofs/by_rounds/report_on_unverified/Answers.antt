use Rattle.std.proofs.Common.{◌∙◌, inl, inr, refl, sym}
use Rattle.hub_serve.proofs.by_rounds.report_on_unverified.Goals as goal

pub returns-else-is_memory-clause-told : goal.returns-else-is_memory-clause-told
returns-else-is_memory-clause-told c = λ M n S h cs. inl (inr (n, S, refl), h (sym c.is_memory.ensures ∙ c.if-is_memory.false))
