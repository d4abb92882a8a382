use Rattle.std.proofs.Common.{◌≡◌, ap, sym, subst}
use Rattle.std.specs.Result.{IfOk}
use Rattle.path_walk.proofs.Linked.{from_link}
use Rattle.path_walk.specs.Files.{file_by}
use Rattle.path_walk.proofs.files.linked_file.Goals as goal

-- the walk by the whole path of the link has the same result as the walk that begins at the link
pub returns : goal.returns
returns c = record {
  file = λ name dir named link.
      let t = c.args.tree.now in
      subst (λ f. IfOk c.file_next_to.result (λ file. file ≡ f))
      (sym (ap (file_by t) (from_link t c.know.ensures c.args.folder.now name c.args.target.now dir named link)))
      (c.file_next_to.ensures dir);
}
