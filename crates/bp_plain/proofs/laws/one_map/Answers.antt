use Rattle.bp_plain.proofs.Existence.{is_shown, map_shown}
use Rattle.bp_plain.proofs.Uniqueness.{shows_once}
use Rattle.bp_plain.proofs.laws.one_map.Goals as goal

pub returns : goal.returns
returns c =
    let image = c.args._image.now in
    let shows = is_shown image c.requires in
    (map_shown image c.requires, shows, λ other also. shows_once image (map_shown image c.requires) other shows also)
