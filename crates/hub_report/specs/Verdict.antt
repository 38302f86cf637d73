-- The text of the answer that a set is safe.
use Rattle.std.specs.Prelude.{ℕ, List, codes, string_bytes}
use Rattle.hub_report.specs.declared.verdict.Verdict.{Verdict}
use Rattle.hub_report.specs.declared.verdict.Verdict.TheVariants.{Safe, Verified, Certified}

abbrev pub text_of : Verdict → List ℕ
text_of Safe = codes "safe\n"
text_of Verified = codes "verified\n"
text_of (Certified text) = string_bytes text
