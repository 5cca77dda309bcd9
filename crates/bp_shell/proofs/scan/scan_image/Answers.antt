use Rattle.std.proofs.Common.{◌≡◌, ◌∙◌, ap, arith, ◌*◌, ◌/◌, length, false}
use Rattle.std.proofs.lemmas.List.{length-replicate}
use Rattle.bp_roles.proofs.SeenLaws.{length-seen}
use Rattle.bp_shell.proofs.scan.scan_image.Goals as goal

pub new-requires : goal.new-requires
new-requires c = omega (arith, c.words.ensures.count, length-seen c.args.region.now.roles c.args.region.now.memory.base, c.requires.sized.at_most)

pub scan_with-requires-clause-blocks : goal.scan_with-requires-clause-blocks
scan_with-requires-clause-blocks c =
    let long : c.words.result ≡ length c.args.region.now.memory.base = c.words.ensures.count ∙ length-seen c.args.region.now.roles c.args.region.now.memory.base in
    ap length c.in-Ok.ensures.blocks ∙ length-replicate (c.words.result / 512) false ∙ ap (λ n. n / 512) long

pub scan_with-requires-clause-inodes : goal.scan_with-requires-clause-inodes
scan_with-requires-clause-inodes c =
    let long : c.words.result ≡ length c.args.region.now.memory.base = c.words.ensures.count ∙ length-seen c.args.region.now.roles c.args.region.now.memory.base in
    ap length c.in-Ok.ensures.inodes ∙ length-replicate (64 * (c.words.result / 512)) false ∙ ap (λ n. 64 * (n / 512)) long

pub scan_with-requires-clause-counts : goal.scan_with-requires-clause-counts
scan_with-requires-clause-counts c =
    let long : c.words.result ≡ length c.args.region.now.memory.base = c.words.ensures.count ∙ length-seen c.args.region.now.roles c.args.region.now.memory.base in
    ap length c.in-Ok.ensures.counts ∙ length-replicate (64 * (c.words.result / 512)) 0 ∙ ap (λ n. 64 * (n / 512)) long

pub scan_with-requires-clause-snapshot_blocks : goal.scan_with-requires-clause-snapshot_blocks
scan_with-requires-clause-snapshot_blocks c =
    let long : c.words.result ≡ length c.args.region.now.memory.base = c.words.ensures.count ∙ length-seen c.args.region.now.roles c.args.region.now.memory.base in
    ap length c.in-Ok.ensures.snapshot_blocks ∙ length-replicate (c.words.result / 512) false ∙ ap (λ n. n / 512) long

pub scan_with-requires-clause-pending : goal.scan_with-requires-clause-pending
scan_with-requires-clause-pending c =
    let long : c.words.result ≡ length c.args.region.now.memory.base = c.words.ensures.count ∙ length-seen c.args.region.now.roles c.args.region.now.memory.base in
    c.in-Ok.ensures.pending ∙ ap (λ n. 64 * (n / 512)) long
