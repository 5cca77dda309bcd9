-- Commands with their subcommands.
use Rattle.std.proofs.Common.{◌≡◌, ◌∙◌, ap, ap₂, refl, subst, true, List, inl, inr, Result, Ok, Err}
use Rattle.clap.specs.declared.builder.command.Command.{Command}
use Rattle.clap.specs.declared.error.Error.{Error}
use Rattle.clap.specs.Kinds.{Kinds}
use Rattle.clap.specs.Words.{App, AddsSubcommand, FailsBy, HasMatchesOf, IsAmong, Text, app_of, fault_of, is_simple_and_free, kind_of, with_subcommand}
use Rattle.clap.specs.declared.error.kind.ErrorKind.TheVariants as kind
use Rattle.clap.specs.declared.parser.matches.ArgMatches.{ArgMatches}
use Rattle.bp_command.specs.Commands.{HasMet, IsCommand, IsRefusedBy, IsRight, IsTaken, bpfs_app}
use Rattle.bp_command.specs.declared.arguments.WordsFault.TheVariants.{Usage}

pub add_command : (a b : App) (old sub new : Command) → IsCommand a old → IsCommand b sub → AddsSubcommand old sub new → IsCommand (with_subcommand a b.top) new
add_command a b old sub new p q s = record {
  app = s.shape q.local ∙ ap₂ with_subcommand p.app (ap (λ (x : App). x.top) q.app);
  local = s.globals ∙ rw (p.local, q.local) refl;
}

simple : is_simple_and_free bpfs_app ≡ true
simple = refl

-- what a simple command gives fails by what is wrong with the words
abbrev FailsWhereSimple : Command → List Text → Result ArgMatches Error → Type 0
FailsWhereSimple c words r = is_simple_and_free (app_of c) ≡ true → FailsBy (fault_of (app_of c) words) r

fails : (c : Command) (words : List Text) (r : Result ArgMatches Error) → IsCommand bpfs_app c → FailsWhereSimple c words r →
    FailsBy (fault_of bpfs_app words) r
fails c words r is by = subst (λ (a : App). FailsBy (fault_of a words) r) is.app (by (ap is_simple_and_free is.app ∙ simple))

pub taken_words : (c : Command) (words : List Text) (m : ArgMatches) → IsCommand bpfs_app c → FailsWhereSimple c words (Ok m) → IsTaken words
unfolding IsTaken
taken_words c words m is by = fails c words (Ok m) is by

pub refused_words : (c : Command) (words : List Text) (e : Error) → IsCommand bpfs_app c → FailsWhereSimple c words (Err e) →
    (kind_of e ≡ kind.OutOfMemory → ⊥) → IsRight words (Usage e)
unfolding IsTaken IsRefusedBy
refused_words c words e is by other =
    let among : IsAmong (kind_of e) (fault_of bpfs_app words) = elim (fails c words (Err e) is by) [
      | inl memory ↦ absurd (other memory)
      | inr among ↦ among
    ] in
    (λ taken. subst (λ (kinds : Kinds). IsAmong (kind_of e) kinds) taken among, among)

pub met_words : (c : Command) (words : List Text) (m : ArgMatches) → IsCommand bpfs_app c → HasMatchesOf (app_of c) words m → HasMet words m
unfolding HasMet
met_words c words m is h = subst (λ (a : App). HasMatchesOf a words m) is.app h
