use Rattle.std.proofs.Common.{◌<◌, ◌∙◌, ◌++◌, [], ◌∷◌, ap, arith, get_or, length, sym, refl, take}
use Rattle.std.proofs.lemmas.List.{drop_more}
use Rattle.pm_raw.specs.declared.region.RawRegion.TheInside.{Inside}
use Rattle.pm_raw.proofs.RegionLaws.{IsStored, consistent-stored, memory-stored, sizes}
use Rattle.pm_raw.proofs.region.RawRegionRegion.store.Goals.{After-push}
use Rattle.pm_raw.proofs.region.RawRegionRegion.store.Goals as goal

pub bounds-as_slice-word : goal.bounds-as_slice-word
bounds-as_slice-word c =
    let reported = sizes c.self.inside _ c.self.invariant c.self.view_is in
    omega (arith, c.requires.in_range, reported.base, ap length c.as_slice.ensures)

pub set-requires : goal.set-requires
set-requires c =
    let reported = sizes c.self.inside _ c.self.invariant c.self.view_is in
    omega (arith, c.requires.in_range, reported.base)

pub push-requires : goal.push-requires
push-requires c =
    let reported = sizes c.self.inside _ c.self.invariant c.self.view_is in
    omega (arith, c.requires.room, reported.events, reported.capacity)

-- the region as it is left
abbrev next : After-push → Inside
next c = record c.self.inside { current = c.set.new.self; entries = c.push.new.self }

-- it has a run of one value stored
stored : (c : After-push) → IsStored c.self.inside (next c) c.args.word (c.args.value ∷ [])
stored c =
    let region = c.self.inside in
    let word = c.args.word in
    let reported = sizes region _ c.self.invariant c.self.view_is in
    let inside : word < length region.current = omega (arith, c.requires.in_range, reported.base) in
    record {
      inside = omega (arith, inside);
      fits = omega (arith, c.requires.room, reported.events, reported.capacity);
      now = c.set.ensures;
      words = c.push.ensures.words;
      saved =
          c.push.ensures.saved
          ∙ ap (λ now. region.entries.saved ++ get_or now word 0 ∷ []) c.as_slice.ensures
          ∙ sym (ap (λ suffix. region.entries.saved ++ take 1 suffix) (drop_more region.current word 0 inside));
      room = c.push.ensures.room;
      barriers = refl;
      call_ends = refl;
      drains = refl;
    }

pub invariant_of-self : goal.invariant_of-self
invariant_of-self c = consistent-stored c.self.inside _ c.args.word (c.args.value ∷ []) c.self.invariant (stored c)

pub returns : goal.returns
returns c = memory-stored c.self.inside _ c.args.word (c.args.value ∷ []) c.self.invariant (stored c) _ c.self.view_is
