use Rattle.std.proofs.Common.{◌≡◌, ◌/◌, sym, ◌∙◌, ap, arith}
use Rattle.bp_limits.specs.Limits.{magic, version_at}
use Rattle.bp_limits.proofs.Versions.{version_of_magic}
use Rattle.bp_read.proofs.RegionWords.{length_now}
use Rattle.bp_layout.specs.Formatted.{version_of}
use Rattle.bp_layout.specs.Words.{block_count}
use Rattle.pm_region.specs.Memory.{current_words}
use Rattle.bp_scan.proofs.first_tree.check_superblock.Goals as goal

pub returns-then-superblock-magic_number-clause-fault : goal.returns-then-superblock-magic_number-clause-fault
returns-then-superblock-magic_number-clause-fault g c version has_magic =
    let magic_number : c.magic-magic_number.result ≡ magic (version_at c.read_superblock-superblock.result.magic) = c.magic-magic_number.ensures ∙ ap magic c.at.ensures in
    let own : version_at c.read_superblock-superblock.result.magic ≡ version =
    ap version_at (c.read_superblock-superblock.ensures.magic ∙ has_magic) ∙ version_of_magic version in
    c.if-superblock-magic_number.true (c.read_superblock-superblock.ensures.magic ∙ has_magic ∙ ap magic (sym own) ∙ sym magic_number)

pub returns-then-superblock-blocks-clause-fault : goal.returns-then-superblock-blocks-clause-fault
returns-then-superblock-blocks-clause-fault g c =
    let image = current_words (g.R.Region.memory c.args.region.now) in
    let long = length_now (g.R.Region.memory c.args.region.now) in
    let blocks : c.words-blocks.result / 512 ≡ block_count image = omega (arith, long, c.words-blocks.ensures.count) in
    let magic_number : c.magic-magic_number.result ≡ magic (version_of image) = c.magic-magic_number.ensures ∙ ap magic (c.at.ensures ∙ ap version_at c.read_superblock-superblock.ensures.magic) in
    (sym c.read_superblock-superblock.ensures.magic ∙ c.if-superblock-magic_number.false ∙ magic_number, λ same. c.if-superblock-blocks.true (c.read_superblock-superblock.ensures.blocks ∙ same ∙ sym blocks), omega (arith, blocks), omega (arith, c.read_superblock-superblock.ensures.blocks))

pub returns-clause-formatted : goal.returns-clause-formatted
returns-clause-formatted g c =
    let image = current_words (g.R.Region.memory c.args.region.now) in
    let long = length_now (g.R.Region.memory c.args.region.now) in
    let blocks : c.words-blocks.result / 512 ≡ block_count image = omega (arith, long, c.words-blocks.ensures.count) in
    let magic_number : c.magic-magic_number.result ≡ magic (version_of image) = c.magic-magic_number.ensures ∙ ap magic (c.at.ensures ∙ ap version_at c.read_superblock-superblock.ensures.magic) in
    record {
      sized = c.requires.sized;
      has_magic = sym c.read_superblock-superblock.ensures.magic ∙ c.if-superblock-magic_number.false ∙ magic_number;
      counted = sym c.read_superblock-superblock.ensures.blocks ∙ c.if-superblock-blocks.false ∙ blocks;
    }
