mod LookedFacts
mod NotedFacts
mod OperandFacts
mod ToldFacts
mod UntoldFacts
