-- What is known of names whose files nothing was done to.
use Rattle.std.proofs.Common.{refl, ◌∙◌, ◌≡◌}
use Rattle.std.specs.Prelude.{Some, None}
use Rattle.bp_io.specs.Files.{KeepsOthers, Stays, StaysAttached}
use Rattle.bp_io.specs.Views.{Known, View}

pub stays_same : (known : Known) → Stays known known
stays_same None = refl
stays_same (Some known) = refl

pub stays_stays : (a b c : Known) → Stays a b → Stays b c → Stays a c
stays_stays None b c first second = stays_none b c first second
  where
    stays_none : (b c : Known) → b ≡ None → Stays b c → c ≡ None
    stays_none None c e stays = stays
    stays_none (Some b) c e stays = absurd (let no_way : ◌≡◌ {A = Known} (Some b) None = e in cc)
stays_stays (Some a) b c first second = rw first at second

-- of files that are not attached nothing changes by no call, nor by two
pub others_same : (a : View) → KeepsOthers a a
others_same a = λ name is. stays_same (a.contents name)

pub others_then : (a b c : View) → StaysAttached a b → KeepsOthers a b → KeepsOthers b c → KeepsOthers a c
others_then a b c attached first second = λ name is. stays_stays (a.contents name) (b.contents name) (c.contents name) (first name is) (second name (attached.attached name ∙ is))
