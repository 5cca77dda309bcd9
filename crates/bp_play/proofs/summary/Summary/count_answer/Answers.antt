use Rattle.std.proofs.Common.{◌≡◌, true, refl}
use Rattle.bp_plain.specs.SeenAnswers.{answer_seen}
use Rattle.bp_plain.specs.declared.replies.Answer.{Answer}
use Rattle.bp_plain.specs.declared.replies.Answer.TheVariants.{Done, Bytes, FileOf, DirOf, LinksOf, AttributeOf, Names, Refused}
use Rattle.bp_plain.specs.declared.errors.FsError.{FsError}
use Rattle.bp_play.specs.Summaries.{is_carried_out}
use Rattle.bp_play.proofs.SumLaws.{ok_counted}
use Rattle.bp_play.proofs.summary.Summary.count_answer.Goals as goal

pub returns-in-Refused : goal.returns-in-Refused
returns-in-Refused c = rw c.in-Refused.is c.count_refusal.ensures

carried : (answer : Answer) → ((error : FsError) → answer ≡ Refused error → ⊥) → is_carried_out (answer_seen answer) ≡ true
carried Done other = refl
carried (Bytes content) other = refl
carried (FileOf size) other = refl
carried (DirOf count) other = refl
carried (LinksOf count) other = refl
carried (AttributeOf value) other = refl
carried (Names listing) other = refl
carried (Refused error) other = absurd (other error refl)

pub returns-in_default : goal.returns-in_default
returns-in_default c = ok_counted c.args.self.now (answer_seen c.args.answer.now) (carried c.args.answer.now c.in_default.not-Refused)
