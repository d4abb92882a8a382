use Rattle.std.proofs.Common.{rules, ◌≡◌, ◌∙◌, ◌<◌, length, get_or}
use Rattle.std.specs.Str.{bytes_eq}
use Rattle.indexmap.specs.IndexSet.{insert_key}
use Rattle.search_listing.proofs.MadePaths.{link_more}
use Rattle.search_listing.proofs.made.Made.of.Goals as goal

pub loop-link-preserved : goal.loop-link-preserved
loop-link-preserved c =
    let links = c.args.links.now in
    let i = c.loop-link.link-index in
    let link = c.link-item.result in
    let within : i < length links = search rules in
    let is : get_or links i link ≡ link = search rules in
    let put : c.insert.new.self ≡ insert_key bytes_eq c.loop-link.paths link.path = search rules in
    λ path. link_more c.loop-link.paths c.insert.new.self links i link within is put path ∙ c.loop-link.invariant path
