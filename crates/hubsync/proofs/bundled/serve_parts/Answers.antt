use Rattle.std.proofs.Common.{◌∙◌, Global, inl, map, string_bytes, subst, sym, MatchOption}
use Rattle.std.proofs.lemmas.Option.{none-some}
use Rattle.hub_archives.specs.Found.{AreKeptOut, IsHeld}
use Rattle.hub_cli.specs.Words.{asked_of}
use Rattle.hub_respelled.specs.Caseless.{caseless_bundle}
use Rattle.hubsync.specs.Bundled.{ServesSpelled}
use Rattle.hubsync.proofs.bundled.serve_parts.Goals as goal

pub returns-in-Ok-None : goal.returns-in-Ok-None
returns-in-Ok-None g c =
    let folders = c.args.folders.now in
    let same = c.as_slice.ensures.value ∙ c.in-Ok.ensures.bytes in
    let text = caseless_bundle c.as_slice.result.now in
    let kept = subst (λ o. MatchOption o (AreKeptOut folders text) (IsHeld folders text)) c.in-Ok-None.field-0-is c.in-Ok-None.ensures in
    let asked = asked_of (map (string_bytes {Z = Global}) c.args.words.now) in
    let old = g.W.Write.contents c.args.output.now.device.device in
    let new = g.W.Write.contents c.serve_spelled.new.output.device.device in
    let failed = c.serve_spelled.new.output.failed in
    let status = c.serve_spelled.result.status in
    record {
      bundled = λ none. inl (subst (λ b. AreKeptOut folders (caseless_bundle b)) same kept, subst (λ b. ServesSpelled asked c.args.is_for_unison folders c.args.parts.now b old new failed status) (c.as_slice-bundle.ensures.value ∙ c.in-Ok.ensures.bytes) c.serve_spelled.ensures);
      refused = λ n is. absurd (none-some n (sym c.in-Ok.ensures.ok ∙ is));
    }
