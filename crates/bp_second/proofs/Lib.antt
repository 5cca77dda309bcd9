mod SnapshotLaws
