use Rattle.std.proofs.Common.{◌≡◌, ◌<◌, ◌∙◌, ℕ, inl, Option, None, Some, arith}
use Rattle.std.specs.Prelude.{IsSome, unwrap_or, SomeIff}
use Rattle.std.specs.Char.{IsScalar}
use Rattle.hub_automaton.proofs.Alphabets.{free_from, free_end, first_is_free}
use Rattle.hub_automaton.proofs.alphabet.first_unmentioned.Goals as goal

the_scalar : (r : Option ℕ) (n d : ℕ) → SomeIff r (IsScalar n) n → IsSome r → unwrap_or r d ≡ n
the_scalar None n d h s = cc
the_scalar (Some x) n d h s = h.1

pub returns : goal.returns
returns c =
    let ms = c.args.mentioned.now in
    let low : c.loop-character.code < 0xD800 = omega (arith, c.loop-character.invariant.1, c.requires.few, c.loop-character.auto.character-index-end) in
    c.unwrap_or.ensures ∙ the_scalar c.from_u32.result c.loop-character.code 97 c.from_u32.ensures.value (c.from_u32.ensures.succeeds (inl low))
    ∙ free_end ms c.loop-character.character-index c.loop-character.code (free_from 97 ms) c.loop-character-test.false c.loop-character.invariant.0
    ∙ first_is_free ms c.requires.ascends
