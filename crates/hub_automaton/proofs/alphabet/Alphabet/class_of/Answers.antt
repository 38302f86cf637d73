use Rattle.std.proofs.Common.{◌≡◌, ◌∙◌, sym, ap, true, false}
use Rattle.std.specs.Prelude.{Some}
use Rattle.hub_automaton.specs.Alphabet.{class_of}
use Rattle.hub_automaton.proofs.Alphabets.{found, missing, class_at, class_other}
use Rattle.hub_automaton.proofs.Classes.{class_low}
use Rattle.hub_automaton.proofs.alphabet.Alphabet.class_of.Goals.{in-Ok, in-Err}
use Rattle.hub_automaton.proofs.alphabet.Alphabet.class_of.Goals as goal

pub returns : goal.returns
returns c =
    let ms = c.self.inside.mentioned.items in
    let x = c.args.character in
    let view : ms ≡ c.args.self.now = cc (c.self.view_is) in
    let is : Some c.new.result ≡ class_of c.args.self.now x = elim c.match-binary_search.branch [
      | in-Ok w ↦
          let f = found ms c.deref.result.now x w.in-Ok.place c.deref.ensures.value c.self.invariant.ascends w.in-Ok.ensures.position in
          ap Some (c.new.ensures ∙ w.number-is) ∙ sym (class_at ms w.in-Ok.place x c.self.invariant.ascends (sym c.if-is_left_out.ensures) f.0 f.1) ∙ ap (λ v. class_of v x) view
      | in-Err w ↦
          let m = missing ms c.deref.result.now x w.in-Err.field-0 c.deref.ensures.value c.self.invariant.ascends w.in-Err.ensures.position in
          ap Some (c.new.ensures ∙ w.number-is) ∙ sym (class_other ms x (sym c.if-is_left_out.ensures) m.0) ∙ ap (λ v. class_of v x) view
    ] in
    record {
      class = is;
      below = class_low c.args.self.now x c.new.result (sym is);
      none = (λ h. cc, λ h. let w : false ≡ true = c.if-is_left_out.ensures ∙ h in cc);
    }
